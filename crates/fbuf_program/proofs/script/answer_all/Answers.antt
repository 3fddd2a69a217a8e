use Rattle.fbuf_program.proofs.Common.{◌∙◌, refl}
use Rattle.std.proofs.lemmas.Result.{IfErr-at_err, on_ok_weaker}
use Rattle.fbuf_program.proofs.ScriptLemmas.{RepliesSoFar-start, RepliesSoFar-line, RepliesSoFar-sent}
use Rattle.fbuf_program.proofs.ScriptLemmas.{replies_whole, replies_cut_short, replies_in_part}
use Rattle.fbuf_program.proofs.script.answer_all.Goals as goal

pub loop-line-init : goal.loop-line-init
loop-line-init g c =
    let start = RepliesSoFar-start c.args.bytes.now (g.W.Write.contents c.args.output.now.inner) in
    record {
      so_far = rw (c.requires.none, c.requires.begins) start;
      unfailed = refl;
      kept = λ fact holds. holds;
    }

pub returns-in_err-write_all-clause-write : goal.returns-in_err-write_all-clause-write
returns-in_err-write_all-clause-write g c = λ is.
    let so = c.loop-line.invariant.so_far in
    let fault = c.in_err-write_all.ensures.fault in
    let text = c.deref.ensures.value ∙ c.in_default-append_reply.ensures.err in
    (fault.1, replies_in_part c.args.bytes.now _ _ _ _ _ so fault.2.0 _ _ text fault.2.1)

pub returns-in_default-append_reply-clause-memory
    : goal.returns-in_default-append_reply-clause-memory
returns-in_default-append_reply-clause-memory g c = λ is.
    let so = c.loop-line.invariant.so_far in
    let text = c.deref.ensures.value ∙ c.in_default-append_reply.ensures.err in
    replies_cut_short c.args.bytes.now _ _ _ _ _ so c.in-Some.line.now c.in-Some.after.now
    c.in-Some.ensures.first _ (rw text at c.in_ok-write_all.ensures.ok)

pub returns-in_err-write_all-2-clause-write : goal.returns-in_err-write_all-2-clause-write
returns-in_err-write_all-2-clause-write g c = λ is.
    let fault = c.in_err-write_all-2.ensures.fault in
    let given = c.in-Ok.ensures.ok in
    let so = RepliesSoFar-line c.args.bytes.now _ _ _ _ _ c.loop-line.invariant.so_far
    c.in-Some.line.now c.in-Some.after.now given.0 _ _ c.in-Some.ensures.first given.1 given.2 in
    let text = c.deref-in-Some.ensures.value in
    (fault.1, replies_in_part c.args.bytes.now _ _ _ _ _ so fault.2.0 _ _ text fault.2.1)

pub loop-line-preserved : goal.loop-line-preserved
loop-line-preserved g c =
    let given = c.in-Ok.ensures.ok in
    let so = RepliesSoFar-line c.args.bytes.now _ _ _ _ _ c.loop-line.invariant.so_far
    c.in-Some.line.now c.in-Some.after.now given.0 _ _ c.in-Some.ensures.first given.1 given.2 in
    let appends =
    rw c.deref-in-Some.ensures.value at c.in_ok-write_all-2.ensures.ok in
    record {
      so_far = rw c.clear.ensures.items (RepliesSoFar-sent c.args.bytes.now _ _ _ _ _ so _ appends);
      unfailed = c.in_ok-write_all-2.ensures.unfailed ∙ c.loop-line.invariant.unfailed;
      kept = λ fact holds. c.append_reply.ensures.kept fact (c.loop-line.invariant.kept fact holds);
    }

pub loop-line-preserved-then-len-lt-WRITE_SIZE : goal.loop-line-preserved-then-len-lt-WRITE_SIZE
loop-line-preserved-then-len-lt-WRITE_SIZE g c =
    let given = c.in-Ok.ensures.ok in
    record {
      so_far = RepliesSoFar-line c.args.bytes.now _ _ _ _ _ c.loop-line.invariant.so_far
          c.in-Some.line.now c.in-Some.after.now given.0 _ _ c.in-Some.ensures.first
          given.1 given.2;
      unfailed = c.loop-line.invariant.unfailed;
      kept = λ fact holds. c.append_reply.ensures.kept fact (c.loop-line.invariant.kept fact holds);
    }

pub returns-clause-ok : goal.returns-clause-ok
returns-clause-ok g c =
    let so = c.loop-line.invariant.so_far in
    let text = c.deref-2.ensures.value in
    on_ok_weaker c.write_all-2.result
    (λ appends. replies_whole c.args.bytes.now _ _ _ _ _ so c.in_default.ensures.end _
    (rw text at appends))
    c.write_all-2.ensures.ok

pub returns-clause-write : goal.returns-clause-write
returns-clause-write g c = λ is.
    let so = c.loop-line.invariant.so_far in
    let fault = IfErr-at_err _ is c.write_all-2.ensures.fault in
    let text = c.deref-2.ensures.value in
    (fault.1, replies_in_part c.args.bytes.now _ _ _ _ _ so fault.2.0 _ _ text fault.2.1)
