use Rattle.futures_buffered_unordered.proofs.Common.{◌≡◌, Some, length, refl, ap, ◌∙◌, rules, length-map, slot_count}
use Rattle.futures_buffered_core.proofs.MadeMarkedLemmas.{marked_slots}
use Rattle.futures_buffered_unordered.proofs.futures_unordered_bounded.BoundedSet.over_limit.Goals as goal

pub invariant_of-result : goal.invariant_of-result
invariant_of-result g c =
    let source = c.in_ok-source.ensures.made in
    let same_size = marked_slots g.S.ReadySource.marks _ _ _ g.met.S.ReadySource.laws _ _ _ source.marked in
    (same_size ∙ (g.met.S.NewSource.made_slots _ _ source.was_made ∙ c.capacity.ensures), c.requires.some)

pub returns : goal.returns
returns g c =
    let drawn = c.in_ok-slots.ensures.full in
    let count : slot_count c.in_ok-slots.slots ≡ length drawn.0 = ap slot_count drawn.2 ∙ length-map drawn.0 Some in
    let counted : c.capacity.result ≡ length drawn.0 = c.capacity.ensures ∙ count in
    let source = c.in_ok-source.ensures.made in
    record {
      holds = (
        drawn.0,
        drawn.1,
        record {
          slots_hold = drawn.2;
          new_source = source.new_source;
          was_made = rw (← counted) source.was_made;
          marked = rw (← counted) source.marked;
          takes_at_most = refl;
        },
      );
      fits = c.in_ok-slots.ensures.fits;
      large = search rules;
    }
