use Rattle.futures_buffered_core.proofs.Common.{ap, ◌∙◌, rules, Shared}
use Rattle.futures_buffered_table.specs.ReadyList.{ListIdentity}
use Rattle.futures_buffered_core.proofs.MadeMarkedLemmas.{made_marked}
use Rattle.futures_buffered_core.proofs.ready_shared.SharedReadyNewSource.make_marked.Goals as goal

pub returns : goal.returns
returns c =
    let is = c.over_list.ensures in let list = c.in_ok-list.ensures in
    record {
      made = made_marked c.args.cap c.over_list.result
          (ap (λ (s : Shared). s.capacity) is ∙ ap (λ (l : ListIdentity). l.capacity) c.in_ok-wakes.ensures.list ∙ list.list)
          (ap (λ (s : Shared). s.head) is ∙ list.poller.1)
          (ap (λ (s : Shared). s.taken) is ∙ list.poller.2)
          (ap (λ (s : Shared). s.marked) is ∙ list.waker.1)
          (search rules);
      refuses = search rules;
    }
