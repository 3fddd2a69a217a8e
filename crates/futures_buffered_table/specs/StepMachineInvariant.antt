-- How a `StepMachine` keeps itself.
use Rattle.std.specs.Prelude.{◌≡◌, ◌+◌, ◌<◌, ◌^◌, length}
use Rattle.futures_buffered_table.specs.declared.step.TheConstants.{WAKE_SEATS}
use Rattle.futures_buffered_table.specs.StepMachine.{IsLedTo, Machine}

pub record KeepsMachine (m : Machine) : Type 0 where
  pub sized : m.capacity < 2 ^ 62
  pub wide : length m.words ≡ m.capacity + m.capacity + 2
  pub seated : length m.roles ≡ WAKE_SEATS + 1
  pub reached : ∥ IsLedTo m ∥₁
