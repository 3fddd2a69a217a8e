-- What a constructor for `n` slots returns.
use Rattle.std.specs.Prelude.{◌≡◌, ℕ, Result, IfOk, IsOk}
use Rattle.futures_buffered_table.specs.Answer.{RefusesTooLarge}
use Rattle.futures_buffered_table.specs.declared.answer.NewFault.{NewFault}

module _ {X : Type 0} (n : ℕ) (is_new : X → Type 0) (result : Result X NewFault) where
  -- a call makes `n` slots, or fails
  pub record MakesSlots : Type 0 where
    -- what the call makes is new
    pub made : IfOk result is_new
    -- the result is `TooLarge` if and only if `n` is too large, and `Memory` only if `n` is not
    pub refuses : RefusesTooLarge n result

  -- a call makes one group of `n` slots or no group, or fails
  pub record MakesGroup : Type 0 where
    -- what the call makes is new
    pub made : IfOk result is_new
    -- the result is `TooLarge` if and only if `n` is too large, and `Memory` only if `n` is not
    pub refuses : RefusesTooLarge n result
    -- a call for 0 slots never fails
    pub none : n ≡ 0 → IsOk result
