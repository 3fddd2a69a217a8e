use Rattle.futures_buffered.proofs.BufferUnorderedAccountLemmas.{try_loses_nothing}
use Rattle.futures_buffered.proofs.try_buffer_unordered.try_calls_lose_nothing.Goals as goal

pub returns : goal.returns
returns g c = try_loses_nothing g.St.Stream g.F.SlotFuture g.S.ReadySource
