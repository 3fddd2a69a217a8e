-- The replies to a script, line by line, and how much of them was written.
use Rattle.std.specs.Prelude.{◌≡◌, ℕ, List, [], ◌∷◌, ◌++◌, Option, take}
use Rattle.std.specs.List.{flat_map}
use Rattle.std.specs.Io.KnownBytes.{Appends}
use Rattle.fbuf_lines.specs.Lines.{lines_of}
use Rattle.fbuf_lines.specs.Reply.{reply_line}
use Rattle.fbuf_lines.specs.Session.{LineGives, ScriptSession, first_session}
use Rattle.fbuf_lines.specs.declared.reply.Reply.{Reply}

-- one reply for each line, each of the session that the lines before it left
abbrev pub LinesGive : ScriptSession → List (List ℕ) → List Reply → ScriptSession → Type 0
LinesGive old [] [] new = new ≡ old
LinesGive old (line ∷ lines) (reply ∷ replies) new =
    (between : ScriptSession) × LineGives old line reply between × LinesGive between lines replies new
LinesGive old [] (reply ∷ replies) new = ⊥
LinesGive old (line ∷ lines) [] new = ⊥

-- a text is the replies to these lines, from a new session on
pub record IsReplyTo (lines : List (List ℕ)) (text : List ℕ) : Type 0 where
  pub replies : List Reply
  pub last : ScriptSession
  pub given : LinesGive first_session lines replies last
  pub written : text ≡ flat_map reply_line replies

-- the replies to all lines of a script were appended
pub record AppendsReplies (bytes : List ℕ) (old new : Option (List ℕ)) : Type 0 where
  pub text : List ℕ
  pub replied : IsReplyTo (lines_of bytes) text
  pub appended : Appends old new text

-- the replies to some first lines were appended, but not to all
pub record AppendsFirstReplies (bytes : List ℕ) (old new : Option (List ℕ)) : Type 0 where
  pub before : List (List ℕ)
  pub line : List ℕ
  pub after : List (List ℕ)
  pub lines : lines_of bytes ≡ before ++ line ∷ after
  pub text : List ℕ
  pub replied : IsReplyTo before text
  pub appended : Appends old new text

-- a beginning of the replies to some first lines was appended
pub record AppendsPartOfReplies (bytes : List ℕ) (old new : Option (List ℕ)) : Type 0 where
  pub before : List (List ℕ)
  pub after : List (List ℕ)
  pub lines : lines_of bytes ≡ before ++ after
  pub text : List ℕ
  pub replied : IsReplyTo before text
  pub count : ℕ
  pub appended : Appends old new (take count text)
