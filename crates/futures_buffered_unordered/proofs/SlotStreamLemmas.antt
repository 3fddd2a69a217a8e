-- Polls of one stream, one row behind another.
use Rattle.futures_buffered_unordered.proofs.Common.{◌≡◌, List, [], ◌∷◌, ◌++◌, Option, Some, None, refl, sym, subst, append-nil, AllByRecursion, FoldsTo, filter_map-append, Poll, Ready, Pending, item_of, IsNoEnd, Gave, Became}

-- steps that follow others
pub folds_append : {P A : Type 0} (step : P → A → P → Type 0) (xs ys : List A) (p q r : P) → FoldsTo step p xs q → FoldsTo step q ys r → FoldsTo step p (xs ++ ys) r
folds_append step [] ys p q r first rest = subst (λ s. FoldsTo step s ys r) (sym first) rest
folds_append step (x ∷ xs) ys p q r first rest = (first.0, first.1, folds_append step xs ys first.0 q r first.2 rest)

each-append : {X : Type 0} (P : X → Type 0) (xs ys : List X) → AllByRecursion P xs → AllByRecursion P ys → AllByRecursion P (xs ++ ys)
each-append P [] ys all more = more
each-append P (x ∷ xs) ys all more = (all.0, each-append P xs ys all.1 more)

module _ {F A : Type 0} (polled : F → Poll (Option A) → F → Type 0) where
  pub gave_none : (stream : F) → Gave polled stream [] stream
  gave_none stream = record { answers = []; polls = refl; go_on = tt; gave = refl }

  pub gave_pending : (stream left : F) → polled stream Pending left → Gave polled stream [] left
  gave_pending stream left h = record { answers = Pending ∷ []; polls = (left, h, refl); go_on = (tt, tt); gave = refl }

  pub gave_item : (stream left : F) (x : A) → polled stream (Ready (Some x)) left → Gave polled stream (x ∷ []) left
  gave_item stream left x h = record { answers = Ready (Some x) ∷ []; polls = (left, h, refl); go_on = (tt, tt); gave = refl }

  gave_on : (first second third : F) (xs ys : List A) → Gave polled first xs second → Gave polled second ys third → Gave polled first (xs ++ ys) third
  gave_on first second third xs ys a b =
      record {
        answers = a.answers ++ b.answers;
        polls = folds_append polled a.answers b.answers first second third a.polls b.polls;
        go_on = each-append IsNoEnd a.answers b.answers a.go_on b.go_on;
        gave = rw (a.gave, b.gave) (sym (filter_map-append item_of a.answers b.answers));
      }

  -- a place from which nothing was asked
  pub became_none : (o : Option F) → Became polled o [] o
  became_none None = (refl, refl)
  became_none (Some stream) = gave_none stream

  -- one row of polls behind another
  pub became_on : (a b c : Option F) (xs ys : List A) → Became polled a xs b → Became polled b ys c → Became polled a (xs ++ ys) c
  became_on None b c xs ys first rest = by_empty b first.1 rest
    where
      by_empty : (o : Option F) → o ≡ None → Became polled o ys c → (xs ++ ys ≡ []) × (c ≡ None)
      by_empty None e rest = (rw (first.0, rest.0) refl, rest.1)
      by_empty (Some stream) e rest = absurd (not_none e)
        where
          not_none : Some stream ≡ None → ⊥
          not_none e = cc
  became_on (Some stream) (Some next) (Some now) xs ys first rest = gave_on stream next now xs ys first rest
  became_on (Some stream) (Some next) None xs ys first rest = (rest.0, rest.1, gave_on stream next rest.0 xs ys first rest.2, rest.3)
  became_on (Some stream) None c xs ys first rest = rw (rest.1, rest.0, append-nil xs) first
