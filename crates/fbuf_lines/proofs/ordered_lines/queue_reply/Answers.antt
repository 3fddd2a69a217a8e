use Rattle.fbuf_lines.proofs.ordered_lines.queue_reply.Goals as goal

pub returns-in-Poll-clause-reply : goal.returns-in-Poll-clause-reply
returns-in-Poll-clause-reply c = rw c.in-Poll.is (c.poll_with.result, c.of_poll.ensures, (c.args.cx.now, c.poll_with.new.cx, c.poll_with.ensures))
