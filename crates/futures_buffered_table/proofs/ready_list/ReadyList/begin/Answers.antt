use Rattle.futures_buffered_table.proofs.Common.{rules, arith, ◌≡◌, ◌+◌, ap, ◌∙◌, ListKey}
use Rattle.futures_buffered_table.proofs.BeginningLemmas.{begun_poller, begun_unmarks_none, begun_waker, first_wide, hands_on}
use Rattle.futures_buffered_table.proofs.ready_list.ReadyList.begin.Goals as goal

pub split_seat-other-requires : goal.split_seat-other-requires
split_seat-other-requires c =
    let made = c.in_ok-table.ensures in let key = c.args.key in let table = c.in_ok-table.table.shared.table_id in
    let wide : table.words ≡ key.capacity + key.capacity + 2 = made.0 ∙ first_wide key in
    let me = c.in_ok-table.seat.me in (
      made.2,
      omega arith,
      hands_on _ c.in_ok-table.seat.id me.0 (begun_unmarks_none key table wide me made.4),
    )

pub invariant_of-poll : goal.invariant_of-poll
invariant_of-poll c =
    let made = c.in_ok-table.ensures in let split = c.split_seat-other.ensures in let key = c.args.key in
    begun_poller key _ (ap (λ t. t.words) (split.0 ∙ made.2) ∙ (made.0 ∙ first_wide key)) _ made.4 _ split.2

pub invariant_of-result : goal.invariant_of-result
invariant_of-result c =
    let made = c.in_ok-table.ensures in let key = c.args.key in
    record {
      words = made.0 ∙ first_wide key;
      slots = made.1;
      keyed = ap (λ (k : ListKey). k.capacity) made.5;
      sized = search rules;
    }

pub invariant_of-result-2 : goal.invariant_of-result-2
invariant_of-result-2 c =
    let made = c.in_ok-table.ensures in let split = c.split_seat-other.ensures in let key = c.args.key in
    begun_waker key _ (ap (λ t. t.words) (split.3 ∙ made.2) ∙ (made.0 ∙ first_wide key)) _ made.4 _ split.4
