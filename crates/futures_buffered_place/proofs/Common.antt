-- The names that proofs of this crate use in more than one file.
pub use Rattle.std.proofs.Common.{Bool, List, [], ap, arith, eqb, false, get_or, inl, inr, refl, set, subst, suc, sym, true, zero, ℕ, ⊎_elim, ◌++◌, ◌+◌, ◌<◌, ◌∙◌, ◌∷◌, ◌≡◌, ◌≢◌, ◌≤◌}
pub use Rattle.std.specs.Prelude.{None, Option, Some}
pub use Rattle.atomic_table.specs.Table.{Act, Allows, Enters, Me, Splits, State, Valid, carried_after, gives, keeps, rest, stepped, takes}
pub use Rattle.futures_buffered_place.specs.History.{TakesOut, no_history}
pub use Rattle.futures_buffered_place.specs.Place.{HoldsPlace, KeepsPlace, PutsBy, RuleLosesNone, Stage, TakesBy, TellsTaking, after_put, alone_by, alone_looks, beside_by, beside_of, does, done, filling, filling_by, filling_count, free_taken, home_of, kept, kept_at_home, kept_weight, laid, leaves_next, lent, lent_count, looks, new_beside, new_taker, put_by, put_weight, puts_next, taken_by, taken_weight, total, vacant, won_by, word_of}
pub use Rattle.futures_buffered_place.specs.declared.place.Put.TheVariants.{Busy, Kept}
pub use Rattle.futures_buffered_place.specs.declared.view.Deed.TheVariants.{Leave, Look, Lose, Put, Win, WinFree}
pub use Rattle.futures_buffered_place.specs.declared.view.Hand.TheVariants.{Filling, Nothing, Taken}
pub use Rattle.futures_buffered_place.specs.declared.view.View.{View}
