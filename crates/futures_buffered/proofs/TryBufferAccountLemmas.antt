-- What many calls give where the stream gives errors as well, over any queue of which one knows what a push and a poll account for.
use Rattle.futures_buffered.proofs.Common.{◌≡◌, List, [], ◌∷◌, ◌++◌, map, Option, Some, None, Result, Ok, Err, refl, inl, inr, append-nil, option_to_list, map-append, none-some, Poll, Ready, Pending, output_given, OnlyPushes, PushesOk, WithErrors, futures_of}
use Rattle.std.proofs.lemmas.List.Elements.{filter_map-append}
use Rattle.std.specs.Result.{result_ok}
use Rattle.futures_buffered_unordered.proofs.MergeUnboundedGaveLemmas.{interleaves_on}
use Rattle.futures_buffered_unordered.specs.Interleaves.{Interleaves}

module _ {F T E Q : Type 0} (So : List F → List (Result T E) → Q → Type 0) where
  -- what is accounted for so far, where these answers with a value were given
  abbrev pub AmongErrors : List (Result F E) → List (Result T E) → Q → Type 0
  AmongErrors items given q = (outputs : List (Result T E)) × So (futures_of items) outputs q × WithErrors {T = T} {E = E} outputs given

  module _ (pushes : Q → F → Q → Type 0) where
    pub ok_drew : ((drawn : List F) (outputs : List (Result T E)) (old new : Q) (f : F) → So drawn outputs old → pushes old f new → So (drawn ++ f ∷ []) outputs new)
        → (items : List (Result F E)) (given : List (Result T E)) (old new : Q) (item : Result F E) → AmongErrors items given old → PushesOk {T = T} (OnlyPushes pushes) old item None new → AmongErrors (items ++ item ∷ []) given new
    ok_drew drew items given old new (Ok f) so pushed = rw (filter_map-append result_ok items (Ok f ∷ [])) (so.0, drew (futures_of items) so.0 old new f so.1 pushed, so.2)
    ok_drew drew items given old new (Err e) so pushed = absurd (none-some _ pushed.0)

    pub error_handed : (items : List (Result F E)) (given : List (Result T E)) (old new : Q) (item : Result F E) (x : Result T E) → AmongErrors items given old → PushesOk (OnlyPushes pushes) old item (Some x) new → AmongErrors items (given ++ x ∷ []) new
    error_handed items given old new (Ok f) x so pushed = absurd pushed
    error_handed items given old new (Err e) x so pushed =
        let is : x ≡ Err e = let same = pushed.0 in cc in
        let more : Interleaves so.0 (map Err (so.2.0 ++ e ∷ [])) (given ++ Err e ∷ []) = rw (map-append {B = Result T E} Err so.2.0 (e ∷ [])) (rw (append-nil so.0) at (interleaves_on given so.0 (map Err so.2.0) [] (Err e ∷ []) (Err e ∷ []) so.2.1 (inr ([], refl, (refl, refl))))) in
        rw (is, pushed.1) (so.0, so.1, (so.2.0 ++ e ∷ [], more))

  -- an answer of the queue is passed on
  passed_on : (outputs given : List (Result T E)) (answer : Poll (Option (Result T E))) → WithErrors {T = T} {E = E} outputs given → WithErrors {T = T} {E = E} (outputs ++ option_to_list (output_given answer)) (given ++ option_to_list (output_given answer))
  passed_on outputs given (Ready (Some x)) h = (h.0, rw (append-nil (map {B = Result T E} Err h.0)) at (interleaves_on given outputs (map Err h.0) (x ∷ []) [] (x ∷ []) h.1 (inl ([], refl, (refl, refl)))))
  passed_on outputs given (Ready None) h = rw (append-nil outputs, append-nil given) h
  passed_on outputs given Pending h = rw (append-nil outputs, append-nil given) h

  pub queue_gave : (polls : Q → Poll (Option (Result T E)) → Q → Type 0) → ((drawn : List F) (outputs : List (Result T E)) (old new : Q) (answer : Poll (Option (Result T E))) → So drawn outputs old → polls old answer new → So drawn (outputs ++ option_to_list (output_given answer)) new)
      → (items : List (Result F E)) (given : List (Result T E)) (old new : Q) (answer : Poll (Option (Result T E))) → AmongErrors items given old → polls old answer new → AmongErrors items (given ++ option_to_list (output_given answer)) new
  queue_gave polls gave items given old new answer so polled = (so.0 ++ option_to_list (output_given answer), gave (futures_of items) so.0 old new answer so.1 polled, passed_on so.0 given answer so.2)
