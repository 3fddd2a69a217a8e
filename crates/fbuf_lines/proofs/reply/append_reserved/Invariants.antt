use Rattle.std.proofs.Common.{◌≡◌, ◌++◌, ◌+◌, ◌≤◌, length, take, vec_len, vec_capacity}
use Rattle.fbuf_lines.proofs.reply.append_reserved.Given as goal

abbrev pub invariant-loop-byte : goal.invariant-loop-byte
invariant-loop-byte l =
    record {
      items : l.text.items ≡ l.fn.text.items ++ take l.byte-index l.piece;
      len : vec_len l.text ≡ vec_len l.fn.text + l.byte-index;
      capacity : vec_capacity l.text ≡ vec_capacity l.fn.text;
      room : vec_len l.fn.text + length l.piece ≤ vec_capacity l.fn.text;
    }
