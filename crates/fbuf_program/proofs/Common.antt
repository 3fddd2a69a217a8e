-- The names that proofs of this crate use in more than one file.
pub use Rattle.std.proofs.Common.{Bool, Err, IfErr, IfOk, IfSome, IsSome, List, MatchOption, None, Ok, OnOk, Option, Result, Some, [], ap, append-nil, append_assoc, arith, codes, cond, drop, eqb, false, get_or, inl, inr, is_some, length, not, refl, rules, set, subst, suc, sym, take, true, vec_capacity, vec_len, zero, ℕ, ◌&&◌, ◌*◌, ◌++◌, ◌+◌, ◌-◌, ◌<◌, ◌==◌, ◌^◌, ◌||◌, ◌↔◌, ◌∙◌, ◌∷◌, ◌≡◌, ◌≤◌, ◌⊎◌}
pub use Rattle.std.proofs.KnownBytes.{Appends-nil, Appends-trans, Consumes-all, Consumes-trans}
pub use Rattle.std.proofs.Math.Seq.{take-add, take-append-add, take-length}
pub use Rattle.std.proofs.lemmas.Bool.{cases_lt, eq-eqb, ne_eqb}
pub use Rattle.std.proofs.lemmas.Fmt.{decimal_injective}
pub use Rattle.std.proofs.lemmas.List.{drop-drop, flat_map_more, map-id, take_all, take_more, take_rest}
pub use Rattle.std.proofs.lemmas.List.FromFn.{get_or-range_with_len, length-range_with_len, map-range_with_len_more}
pub use Rattle.std.proofs.lemmas.List.Sorted.{IsNonDecreasingBy-from_sort, sum_by-IsPermutation}
pub use Rattle.std.proofs.lemmas.List.Sums.{sum_by-cons, sum_by-le-sum_by, sum_by-set, sum_by_push}
pub use Rattle.std.specs.Io.KnownBytes.{Appends, Consumes}
pub use Rattle.std.specs.List.{FoldsTo, flat_map, range_with_len, sum}
pub use Rattle.fbuf_lines.specs.Command.{spaced_number}
pub use Rattle.fbuf_lines.specs.Lines.{lines_of}
pub use Rattle.fbuf_lines.specs.Session.{LineGives, ScriptSession, first_session}
pub use Rattle.fbuf_program.specs.Script.{AppendsFirstReplies, AppendsPartOfReplies, AppendsReplies, IsReplyTo, LinesGive}
pub use Rattle.fbuf_program.specs.Threads.{AnswersNumber, AppendsThreadsLine, GaveNumber, GiveNumbers, HoldsNumbers, is_numbered, threads_text, times_held, times_in}
pub use Rattle.futures.specs.declared.task.Poll.TheVariants.{Pending, Ready}
pub use Rattle.futures_buffered_unordered.proofs.HeldLemmas.{AllHeld-none, AllHeld-push, value_in-with_value}
pub use Rattle.futures_buffered_unordered.specs.Held.{AllHeld, Passes, Yields}
