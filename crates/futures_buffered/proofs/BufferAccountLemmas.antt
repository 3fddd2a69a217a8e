-- What many calls account for, over any queue of which one knows what a push, an answer handed back and a poll account for.
use Rattle.futures_buffered.proofs.Common.{◌≡◌, ℕ, List, [], ◌∷◌, ◌++◌, Option, Some, None, Bool, true, false, is_some, refl, sym, subst, inl, inr, append-nil, append_assoc, option_to_list, FoldsTo, Poll, Ready, Pending, Buffering, CallEnds, CallsInTurn, DrawsItem, DrawsLast, DrawsNone, all_drawn, all_outputs, answer_from, output_given}

same_output : {A : Type 0} (goes_on : Bool) (queue_answer : Poll (Option A)) → output_given (answer_from goes_on queue_answer) ≡ output_given queue_answer
same_output goes_on (Ready (Some x)) = refl
same_output true (Ready None) = refl
same_output false (Ready None) = refl
same_output goes_on Pending = refl

outputs_cons : {X A : Type 0} (items : List X) (answer : Poll (Option A)) (calls : List (List X × Poll (Option A))) → all_outputs ((items, answer) ∷ calls) ≡ option_to_list (output_given answer) ++ all_outputs calls
outputs_cons items (Ready None) calls = refl
outputs_cons items (Ready (Some x)) calls = refl
outputs_cons items Pending calls = refl

module _ {St X A Q : Type 0} (next : St → Poll (Option X) → St → Type 0) (count : Q → ℕ) (n : ℕ) (pushes : Q → X → Option A → Q → Type 0) (polls : Q → Poll (Option A) → Q → Type 0)
    (So : List X → List A → Q → Type 0)
    (drew : (drawn : List X) (given : List A) (old new : Q) (item : X) → So drawn given old → pushes old item None new → So (drawn ++ item ∷ []) given new)
    (handed : (drawn : List X) (given : List A) (old new : Q) (item : X) (x : A) → So drawn given old → pushes old item (Some x) new → So drawn (given ++ x ∷ []) new)
    (gave : (drawn : List X) (given : List A) (old new : Q) (answer : Poll (Option A)) → So drawn given old → polls old answer new → So drawn (given ++ option_to_list (output_given answer)) new) where
  drew_all : (items drawn : List X) (given : List A) (old full : Buffering St Q) → So drawn given old.queue → FoldsTo (DrawsItem next count n pushes None) old items full → So (drawn ++ items) given full.queue
  drew_all [] drawn given old full so ran = rw (append-nil drawn) (subst (λ (b : Buffering St Q). So drawn given b.queue) ran so)
  drew_all (item ∷ items) drawn given old full so ran =
      rw (← append_assoc drawn (item ∷ []) items) (drew_all items (drawn ++ item ∷ []) given ran.0 full (drew drawn given old.queue ran.0.queue item so ran.1.pushed) ran.2)

  drew_none : (drawn : List X) (given : List A) (full new : Buffering St Q) → So drawn given full.queue → DrawsNone next count n full new → So drawn given new.queue
  drew_none drawn given full new so (inl h) = subst (λ (b : Buffering St Q). So drawn given b.queue) (sym h.1) so
  drew_none drawn given full new so (inr (inl h)) = rw h.2 so
  drew_none drawn given full new so (inr (inr h)) = rw h.2 so

  ended : (drawn : List X) (given : List A) (full filled new : Buffering St Q) (back : Option A) (answer : Poll (Option A)) → So drawn given full.queue → DrawsLast next count n pushes full back filled → CallEnds polls (Unit {0}) back filled answer new → So drawn (given ++ option_to_list (output_given answer)) new.queue
  ended drawn given full filled new None answer so last ends =
      rw (ends.gives, same_output (is_some filled.stream) ends.queue_answer) (gave drawn given filled.queue new.queue ends.queue_answer (drew_none drawn given full filled so last) ends.polls_queue)
  ended drawn given full filled new (Some x) answer so last ends = rw (ends.0, ends.1) (handed drawn given full.queue filled.queue last.0 x so last.1.pushed)

  pub many_calls : (calls : List (List X × Poll (Option A))) (drawn : List X) (given : List A) (old new : Buffering St Q) → So drawn given old.queue → CallsInTurn next count n pushes polls old calls new → So (drawn ++ all_drawn calls) (given ++ all_outputs calls) new.queue
  many_calls [] drawn given old new so ran = rw (append-nil drawn, append-nil given) (subst (λ (b : Buffering St Q). So drawn given b.queue) ran so)
  many_calls ((items, answer) ∷ calls) drawn given old new so ran =
      let call = ran.1 in
      let full = drew_all items drawn given old call.draws.full so call.draws.items in
      rw (outputs_cons items answer calls, ← append_assoc drawn items (all_drawn calls), ← append_assoc given (option_to_list (output_given answer)) (all_outputs calls))
      (many_calls calls (drawn ++ items) (given ++ option_to_list (output_given answer)) ran.0 new (ended (drawn ++ items) given call.draws.full call.filled ran.0 call.given answer full call.draws.last call.ends) ran.2)
