-- What many polls of a receiver make of it.
use Rattle.futures_buffered_held.proofs.Common.{◌≡◌, List, [], ◌∷◌, ◌++◌, Option, Some, None, refl, sym, ap, subst, append-nil, append_assoc, ◌∙◌}
use mathlib.Core.List.{IsPrefix}
use Rattle.std.specs.List.{FoldsTo}
use Rattle.rtrb.specs.declared.consumer.Consumer.{Consumer}
use Rattle.rtrb.specs.Fifo.{Allowed}
use Rattle.rtrb.specs.Ring.{SameConsumer, received, known_items}
use Rattle.futures.specs.declared.task.Poll.{Poll}
use Rattle.futures.specs.declared.task.Poll.TheVariants.{Ready, Pending}
use Rattle.futures_buffered_unordered.specs.SlotStream.{items_in}
use Rattle.futures_buffered_held.specs.Spsc.{ComesThrough, FindsNone, ReceivesNext, KeepsSendingOrder}

module _ {T A P : Type 0} (allows : List T → T → Type 0) where
  -- values that come first, and those that come after them
  comes_on : (first second third : Consumer T A P) (xs ys : List T) → SameConsumer first second
      → received second ≡ received first ++ xs → IsPrefix (known_items first) (xs ++ known_items second)
      → Allowed allows (received first) (xs ++ ys) → ComesThrough allows second ys third
      → ComesThrough allows first (xs ++ ys) third
  comes_on first second third xs ys same next known allowed k =
      record {
        same = ((k.same.0.0 ∙ same.0.0, k.same.0.1 ∙ same.0.1, k.same.0.2 ∙ same.0.2, k.same.0.3 ∙ same.0.3), k.same.1 ∙ same.1);
        next = k.next ∙ (ap (λ (s : List T). s ++ ys) next ∙ append_assoc (received first) xs ys);
        first = (
          known.0 ++ k.first.0,
          sym (append_assoc (known_items first) known.0 k.first.0) ∙ (ap (λ (s : List T). s ++ k.first.0) known.1
              ∙ (append_assoc xs (known_items second) k.first.0
              ∙ (ap (λ (s : List T). xs ++ s) k.first.1 ∙ sym (append_assoc xs ys (known_items third))))),
        );
        allowed = allowed;
      }

  none_first : (first second third : Consumer T A P) (ys : List T) → FindsNone first second
      → ComesThrough allows second ys third → ComesThrough allows first ys third
  none_first first second third ys h k =
      comes_on first second third [] ys h.0.0 (h.0.1 ∙ sym (append-nil (received first))) h.0.2
      (subst (λ (s : List T). Allowed allows s ys) h.0.1 k.allowed) k

  come_in_order : (answers : List (Poll (Option T))) (old now : Consumer T A P)
      → FoldsTo (ReceivesNext allows) old answers now → ComesThrough allows old (items_in answers) now
  come_in_order [] old now h =
      subst (λ c. ComesThrough allows old [] c) h (record {
        same = ((refl, refl, refl, refl), refl);
        next = sym (append-nil (received old));
        first = ([], append-nil (known_items old));
        allowed = tt;
      })
  come_in_order (Ready (Some x) ∷ answers) old now h =
      let rest = come_in_order answers h.0 now h.2 in
      comes_on old h.0 now (x ∷ []) (items_in answers) h.1.same h.1.next h.1.first
      (h.1.allowed.0, subst (λ (s : List T). Allowed allows s (items_in answers)) h.1.next rest.allowed) rest
  come_in_order (Ready None ∷ answers) old now h =
      none_first old h.0 now (items_in answers) h.1 (come_in_order answers h.0 now h.2)
  come_in_order (Pending ∷ answers) old now h =
      none_first old h.0 now (items_in answers) h.1 (come_in_order answers h.0 now h.2)

  pub keeps_sending_order : KeepsSendingOrder T A P allows
  keeps_sending_order old items now gave =
      subst (λ (s : List T). ComesThrough allows old s now) (sym gave.gave) (come_in_order gave.answers old now gave.polls)
