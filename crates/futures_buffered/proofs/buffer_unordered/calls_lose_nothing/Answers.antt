use Rattle.futures_buffered.proofs.BufferUnorderedAccountLemmas.{loses_nothing}
use Rattle.futures_buffered.proofs.buffer_unordered.calls_lose_nothing.Goals as goal

pub returns : goal.returns
returns g c = loses_nothing g.St.Stream g.St.Item.SlotFuture g.S.ReadySource
