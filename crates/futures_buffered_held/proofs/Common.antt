-- The names that proofs of this crate use in more than one file.
pub use Rattle.std.proofs.Common.{List, None, Option, Some, [], ap, append-nil, append_assoc, arith, eq-eqb, eqb, get_or, inl, inr, length, ne_eqb, refl, rules, set, subst, suc, sym, zero, ℕ, ⊎_elim, ◌++◌, ◌∙◌, ◌∷◌, ◌≡◌, ◌≢◌, ◌⊎◌}
pub use Rattle.atomic_table.specs.Table.{Act, Allows, Joins, Me, Splits, State, Valid, carried_after, chain, gives, homes_after, keeps, opening, rest, stepped, takes}
pub use Rattle.futures_buffered_held.specs.OneshotPlace.{Fits, HoldsOne, Inside, IsHome, IsSent, finished, looked, matched, opened, place_at, sent_by, sent_view, turned, value_of}
pub use Rattle.futures_buffered_held.specs.declared.oneshot_place.Left.{Left}
pub use Rattle.futures_buffered_held.specs.declared.oneshot_place.Left.TheVariants.{Nothing, Value, Waker}
pub use Rattle.futures_buffered_held.specs.declared.oneshot_place.View.{View}
pub use Rattle.futures_buffered_held.specs.declared.oneshot_place.View.TheVariants.{Both, Compared, Got, Idle, Sender, Sent, Spent, Waiting, Writing}
