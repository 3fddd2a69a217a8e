-- How a seat that puts in keeps itself. No public clause cites this module.
use Rattle.std.specs.Prelude.{◌≡◌, [], Option, Bool, true, false}
use Rattle.atomic_table.specs.Table.{Me}
use Rattle.futures_buffered_place.specs.declared.view.Right.{Right}
use Rattle.futures_buffered_place.specs.declared.view.Right.TheVariants.{Alone, Beside}
use Rattle.futures_buffered_place.specs.declared.view.Hand.TheVariants.{Nothing}
use Rattle.futures_buffered_place.specs.declared.view.View.{View}

abbrev pub right_of : Bool → Right
right_of true = Alone
right_of false = Beside

-- it has no slot of the place, and knows whether it stands alone
pub record KeepsPutter {O : Type 0} (me : Me (Option O) (View O)) (alone : Bool) : Type 0 where
  pub rests : me.0.hand ≡ Nothing
  pub at_home : me.1 ≡ []
  pub right : me.0.right ≡ right_of alone
