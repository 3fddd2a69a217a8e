-- What came from iterators, queues, streams of futures and joins that have ended.
use Rattle.futures_buffered.proofs.Common.{◌≡◌, ℕ, List, [], ◌∷◌, map, length, Option, Some, None, Ok, MatchOption, IsSomeAnd, inl, inr, refl, sym, subst, ap, ◌∙◌, map-id, length-replicate, Poll, Runs, Turns, Resolves, Chains, firsts, seconds, Ahead, InTurn, Bounded, HoldsEach}
use Rattle.std.specs.Iterator.{Drains}
use Rattle.std.specs.Vec.Iter.{into_iter_items, into_iter_len, into_iter_steps}
use Rattle.std.specs.declared.vec.IntoIter.{IntoIter}
use Rattle.std.proofs.lemmas.Iterator.{items_from_drains}
use Rattle.std.proofs.lemmas.Iterator.Adapters.{YieldsList-from_vec}
use Rattle.futures_buffered_joins.specs.Join.{IsNewJoin, JoinMayGive}
use Rattle.futures_buffered_joins.specs.JoinRule.{kept_as_it_is}
use Rattle.futures_buffered_joins.specs.SlotsJoin.{MayGiveAt}
use Rattle.futures_buffered_joins.specs.declared.outputs.Places.{Places}

-- all that the iterator of a vector gives is the vector's elements
pub gave_all : {A Z : Type 0} (it : IntoIter A Z) (elements given : List A) → into_iter_items it ≡ elements
    → into_iter_len it ≡ length elements → Drains into_iter_steps it given → given ≡ elements
gave_all it elements given left count drained =
    let each = YieldsList-from_vec elements left count in
    let gave = items_from_drains given (drained.1.0, drained.1.1, λ _. (drained.0, drained.1.2)) each in
    let same = map-id given in
    cc

-- if one output comes of each entry and all have come, there are as many outputs as entries
pub one_of_each : {E A : Type 0} (gives : E → A → Type 0) (entries : List E) (outputs : List A)
    → InTurn gives entries outputs None → length outputs ≡ length entries
one_of_each gives [] outputs came = ap length came.0
one_of_each gives (entry ∷ entries) [] came = absurd came
one_of_each gives (entry ∷ entries) (output ∷ outputs) came =
    let rest = one_of_each gives entries outputs came.1 in
    cc

-- if nothing came first, what came is what came behind
pub behind_nothing : {A : Type 0} (first second : Runs A) (xs : List A) → ((ys : List A) → first ys None → ys ≡ [])
    → Chains first second xs None → second xs None
behind_nothing first second xs none (inl bad) = absurd bad
behind_nothing first second xs none (inr came) =
    let empty = none came.0 came.3 in
    let same : xs ≡ came.1 = cc in
    subst (λ zs. second zs None) (sym same) came.4

-- a join of these items that is ready with outputs has one of each
pub one_of_each_item : {F A S : Type 0} (polled : ℕ → F → Poll A → F → Type 0) (made marks : _) (limit : ℕ)
    (join : Option (Places (Bounded F S) A)) (items : List F) (outputs : List A)
    → IsSomeAnd join (IsNewJoin (HoldsEach made marks limit) items)
    → JoinMayGive (λ (set : Bounded F S). MayGiveAt polled set.slots) kept_as_it_is join (Ok outputs)
    → length outputs ≡ length items
one_of_each_item polled made marks limit None items outputs new may = absurd new
one_of_each_item polled made marks limit (Some places) items outputs new may =
    may.as_many ∙ ap length new.none_done ∙ length-replicate (length items) None

-- futures each of whose outputs is h of the future
module _ {F A : Type 0} (gives : F → A → Type 0) (h : F → A) (exact : (f : F) (x : A) → gives f x → x ≡ h f) where
  in_turn : (before : Unit {0}) (pairs : List (F × A)) (after : Unit {0})
      → Turns (λ _ future x _. gives future x) before pairs after → seconds pairs ≡ map h (firsts pairs)
  in_turn before [] after turned = refl
  in_turn before (pair ∷ pairs) after turned =
      let first = exact pair.0 pair.1 turned.1 in
      let rest = in_turn turned.0 pairs after turned.2 in
      cc

  at_the_end : (source : Runs F) (pairs : List (F × A)) (next : Option F) (outputs : List A) → source (firsts pairs) next
      → outputs ≡ map h (firsts pairs)
      → MatchOption next (◌≡◌ {A = Option A} None None) (λ x. (after : Unit {0}) × ⊥)
      → (futures : List F) × source futures None × (outputs ≡ map h futures)
  at_the_end source pairs None outputs came same ends = (firsts pairs, came, same)
  at_the_end source pairs (Some x) outputs came same ends = absurd ends.1

  -- if a stream of such futures has ended, the outputs are h of each, in their order
  pub resolved : (source : Runs F) (outputs : List A) → Resolves gives source outputs None
      → (futures : List F) × source futures None × (outputs ≡ map h futures)
  resolved source outputs came =
      at_the_end source came.pairs came.next outputs came.came (came.gave ∙ in_turn tt came.pairs came.state came.turned) came.ends

  -- each future gives h, so collect gives map h: of an adaptor that holds nothing yet, over such a stream
  pub collected : {St : Type 0} (yields : St → Runs F) (held : Option St) (stream : St) (before : Runs A) (outputs : List A) → held ≡ Some stream
      → ((xs : List A) → before xs None → xs ≡ []) → Chains before (Resolves gives (Ahead yields held)) outputs None
      → (futures : List F) × yields stream futures None × (outputs ≡ map h futures)
  collected yields held stream before outputs same none came =
      resolved (yields stream) outputs (subst (λ o. Resolves gives (Ahead yields o) outputs None) same (behind_nothing before (Resolves gives (Ahead yields held)) outputs none came))
