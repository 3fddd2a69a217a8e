-- How a constructor for so many slots fails.
use Rattle.std.specs.Prelude.{◌≡◌, ◌↔◌, ℕ, ◌<◌, ◌≤◌, Result, Err, IfOk}
use Rattle.futures_buffered_table.specs.declared.answer.NewFault.{NewFault}
use Rattle.futures_buffered_table.specs.declared.answer.NewFault.TheVariants.{Memory, TooLarge}
use Rattle.futures_buffered_table.specs.declared.answer.TheConstants.{MAX_CAPACITY}

-- the result is `TooLarge` if and only if `cap` is too large, and a value or `Memory` only if `cap` is not
pub record RefusesTooLarge {X : Type 0} (cap : ℕ) (result : Result X NewFault) : Type 0 where
  pub large : (result ≡ Err TooLarge) ↔ (MAX_CAPACITY < cap)
  pub fits : IfOk result (λ _. cap ≤ MAX_CAPACITY)
  pub memory : result ≡ Err Memory → cap ≤ MAX_CAPACITY
