-- The replies to marks, polls and steps, and how a reply is written.
use Rattle.std.specs.Prelude.{ℕ, List, [], ◌∷◌, ◌++◌, Option, Some, None, codes}
use Rattle.std.specs.Fmt.{decimal}
use Rattle.futures.specs.declared.task.Poll.{Poll}
use Rattle.futures.specs.declared.task.Poll.TheVariants as polled
use Rattle.futures_buffered_table.specs.declared.answer.Woke.{Woke}
use Rattle.futures_buffered_table.specs.declared.answer.Woke.TheVariants as woke
use Rattle.futures_buffered_table.specs.declared.answer.Taken.TheVariants as taken
use Rattle.futures_buffered_table.specs.declared.step.StepReply.{StepReply}
use Rattle.futures_buffered_table.specs.declared.step.StepReply.TheVariants as replied
use Rattle.fbuf_lines.specs.declared.reply.Reply.{Reply}
use Rattle.fbuf_lines.specs.declared.reply.Reply.TheVariants.{Done, Full, TooLarge, Output, Pending, Ended, Fresh}
use Rattle.fbuf_lines.specs.declared.reply.Reply.TheVariants.{Already, Count, More, Slot, Empty, Pause, Stuck, Bad}

-- the reply to a mark
abbrev pub woke_reply : Woke → Reply
woke_reply woke.Fresh = Fresh
woke_reply woke.Already = Already

-- the reply to a poll
abbrev pub poll_reply : Poll (Option ℕ) → Reply
poll_reply (polled.Ready (Some value)) = Output value
poll_reply (polled.Ready None) = Ended
poll_reply polled.Pending = Pending

-- the reply to a step
abbrev pub step_reply : StepReply → Reply
step_reply replied.More = More
step_reply (replied.Woke woke) = woke_reply woke
step_reply (replied.Taken (taken.Slot slot)) = Slot slot
step_reply (replied.Taken taken.Empty) = Empty
step_reply (replied.Taken taken.Pause) = Pause

abbrev pub line_feed : List ℕ
line_feed = 10 ∷ []

-- the line of a reply, with its line feed
abbrev pub reply_line : Reply → List ℕ
reply_line Done = codes "ok" ++ line_feed
reply_line Full = codes "full" ++ line_feed
reply_line TooLarge = codes "large" ++ line_feed
reply_line (Output value) = codes "some " ++ decimal value ++ line_feed
reply_line Pending = codes "pending" ++ line_feed
reply_line Ended = codes "none" ++ line_feed
reply_line Fresh = codes "fresh" ++ line_feed
reply_line Already = codes "already" ++ line_feed
reply_line (Count count) = decimal count ++ line_feed
reply_line More = codes "more" ++ line_feed
reply_line (Slot slot) = codes "slot " ++ decimal slot ++ line_feed
reply_line Empty = codes "empty" ++ line_feed
reply_line Pause = codes "pause" ++ line_feed
reply_line Stuck = codes "stuck" ++ line_feed
reply_line Bad = codes "bad" ++ line_feed
