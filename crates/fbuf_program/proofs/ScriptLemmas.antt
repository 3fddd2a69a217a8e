-- How far a script has been answered, and what one more line or write makes of it.
use Rattle.fbuf_program.proofs.Common.{◌≡◌, ℕ, ◌+◌, ◌-◌, List, [], ◌∷◌, ◌++◌, length, take, drop, Option, Bool, false, ◌||◌, ◌&&◌, ◌==◌, refl, sym, ap, ◌∙◌, append-nil, append_assoc, ne_eqb, Appends-nil, Appends-trans, take-append-add, take-add, take_rest, drop-drop, flat_map_more, flat_map, Appends, lines_of, LineGives, ScriptSession, first_session, LinesGive, IsReplyTo, AppendsReplies, AppendsFirstReplies, AppendsPartOfReplies}
use Rattle.std.proofs.Math.Bool.{or-false}
use Rattle.fbuf_lines.specs.Reply.{reply_line}
use Rattle.fbuf_lines.specs.declared.reply.Reply.{Reply}

LinesGive-push : (first : ScriptSession) (lines : List (List ℕ)) (replies : List Reply)
    (now later : ScriptSession) (line : List ℕ) (reply : Reply)
    → LinesGive first lines replies now → LineGives now line reply later
    → LinesGive first (lines ++ line ∷ []) (replies ++ reply ∷ []) later
LinesGive-push first [] [] now later line reply given more = (later, rw (← given) more, refl)
LinesGive-push first [] (r ∷ replies) now later line reply given more = absurd given
LinesGive-push first (l ∷ lines) [] now later line reply given more = absurd given
LinesGive-push first (l ∷ lines) (r ∷ replies) now later line reply given more =
    (given.0, given.1, LinesGive-push given.0 lines replies now later line reply given.2 more)

-- The lines before the rest were answered; some of the replies were appended to the output,
-- and the text has those that follow
pub record RepliesSoFar (bytes rest : List ℕ) (session : ScriptSession) (first now : Option (List ℕ))
    (text : List ℕ) : Type 0 where
  pub done : List (List ℕ)
  pub replies : List Reply
  pub lines : lines_of bytes ≡ done ++ lines_of rest
  pub given : LinesGive first_session done replies session
  pub sent : List ℕ
  pub appended : Appends first now sent
  pub written : sent ++ text ≡ flat_map reply_line replies

pub RepliesSoFar-start : (bytes : List ℕ) (first : Option (List ℕ))
    → RepliesSoFar bytes bytes first_session first first []
RepliesSoFar-start bytes first =
    record {
      done = [];
      replies = [];
      lines = refl;
      given = refl;
      sent = [];
      appended = Appends-nil first;
      written = refl;
    }

module _ (bytes rest : List ℕ) (session : ScriptSession) (first now : Option (List ℕ)) (text : List ℕ)
    (so : RepliesSoFar bytes rest session first now text) where
  -- one more line
  pub RepliesSoFar-line : (line after : List ℕ) (reply : Reply) (later : ScriptSession)
      (more : List ℕ)
      → lines_of rest ≡ line ∷ lines_of after → LineGives session line reply later
      → more ≡ text ++ reply_line reply → RepliesSoFar bytes after later first now more
  RepliesSoFar-line line after reply later more is gives appends =
      let joined : so.sent ++ more ≡ (so.sent ++ text) ++ reply_line reply =
      ap (λ (rest : List ℕ). so.sent ++ rest) appends
      ∙ sym (append_assoc so.sent text (reply_line reply)) in
      record {
        done = so.done ++ line ∷ [];
        replies = so.replies ++ reply ∷ [];
        lines = so.lines ∙ rw is (sym (append_assoc so.done (line ∷ []) (lines_of after)));
        given = LinesGive-push first_session so.done so.replies session later line reply so.given gives;
        sent = so.sent;
        appended = so.appended;
        written =
            joined
            ∙ ap (λ (all : List ℕ). all ++ reply_line reply) so.written
            ∙ flat_map_more reply_line [] so.replies reply;
      }

  -- the text was appended, and is begun anew
  pub RepliesSoFar-sent : (later : Option (List ℕ)) → Appends now later text
      → RepliesSoFar bytes rest session first later []
  RepliesSoFar-sent later appends =
      record {
        done = so.done;
        replies = so.replies;
        lines = so.lines;
        given = so.given;
        sent = so.sent ++ text;
        appended = Appends-trans first now later so.sent text so.appended appends;
        written = append-nil (so.sent ++ text) ∙ so.written;
      }

  replied : IsReplyTo so.done (so.sent ++ text)
  replied =
      record { replies = so.replies; last = session; given = so.given; written = so.written }

  pub replies_whole : rest ≡ [] → (later : Option (List ℕ)) → Appends now later text
      → AppendsReplies bytes first later
  replies_whole is later appends =
      record {
        text = so.sent ++ text;
        replied = rw (so.lines, is, append-nil so.done) replied;
        appended = Appends-trans first now later so.sent text so.appended appends;
      }

  pub replies_cut_short : (line after : List ℕ) → lines_of rest ≡ line ∷ lines_of after
      → (later : Option (List ℕ)) → Appends now later text → AppendsFirstReplies bytes first later
  replies_cut_short line after is later appends =
      record {
        before = so.done;
        line = line;
        after = lines_of after;
        lines = so.lines ∙ ap (λ (lines : List (List ℕ)). so.done ++ lines) is;
        text = so.sent ++ text;
        replied = replied;
        appended = Appends-trans first now later so.sent text so.appended appends;
      }

  pub replies_in_part : (count : ℕ) (later : Option (List ℕ)) (written : List ℕ) → written ≡ text
      → Appends now later (take count written) → AppendsPartOfReplies bytes first later
  replies_in_part count later written is appends =
      let more = Appends-trans first now later so.sent (take count text) so.appended in
      record {
        before = so.done;
        after = lines_of rest;
        lines = so.lines;
        text = so.sent ++ text;
        replied = replied;
        count = length so.sent + count;
        appended = rw (take-append-add so.sent text count) (more (rw is at appends));
      }

-- one more write of the rest of a text
pub write_advances : (text rest : List ℕ) (count more : ℕ) (first now later : Option (List ℕ))
    → rest ≡ drop count text → Appends first now (take count text)
    → Appends now later (take more rest)
    → (next : ℕ) × (take (length rest - more) (drop more rest) ≡ drop next text)
    × Appends first later (take next text)
write_advances text rest count more first now later is before after =
    let both = Appends-trans first now later (take count text) (take more (drop count text)) in (
      count + more,
      take_rest rest more ∙ rw is (drop-drop more count text),
      rw (take-add count more text) (both before (rw is at after)),
    )

-- a write that took some bytes is no failure
pub write_unfailed : (count : ℕ) (empty old new first : Bool) → (count ≡ 0 → ⊥)
    → new ≡ (old || ((count == 0) && empty)) → old ≡ first → new ≡ first
write_unfailed count empty old new first some told kept =
    let took : (count == 0) ≡ false = ne_eqb count 0 some in
    told ∙ ap (λ (none : Bool). old || (none && empty)) took ∙ or-false old ∙ kept
