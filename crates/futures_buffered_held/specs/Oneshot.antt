-- What a contract sees of the ends of a one-shot.
use Rattle.std.specs.Prelude.{◌≡◌, Option, Some, None, Result, Ok, Err, MatchOption, refl}
use Rattle.std.specs.Coded.{Coded, code_by, coded×, coded_option}
use Rattle.atomic_table.specs.Seated.{TableId, table_id_coded}
use Rattle.futures.specs.declared.task.Poll.{Poll}
use Rattle.futures.specs.declared.task.Poll.TheVariants.{Ready, Pending}

-- a receiver: its one-shot, and its answer if it has one, which is the value that was sent, or that none was
pub record Reception (T : Type 0) : Type 0 where
  pub oneshot : TableId
  pub answer : Option (Option T)

-- a receipt: the one-shot by which the value was sent, and the value
pub record Slip (T : Type 0) : Type 0 where
  pub oneshot : TableId
  pub sent : Option T

abbrev pub reception_code : {T : Type 0} → Coded T → Coded (Reception T)
reception_code {T} code =
    code_by
    (TableId × Option (Option T))
    (coded× table_id_coded (coded_option (coded_option code)))
    (λ r. (r.oneshot, r.answer))
    (λ p. record { oneshot = p.0; answer = p.1 })
    (λ _. refl)

abbrev pub slip_code : {T : Type 0} → Coded T → Coded (Slip T)
slip_code {T} code =
    code_by
    (TableId × Option T)
    (coded× table_id_coded (coded_option code))
    (λ r. (r.oneshot, r.sent))
    (λ p. record { oneshot = p.0; sent = p.1 })
    (λ _. refl)

module _ {T : Type 0} where
  -- a receiver that has no answer
  abbrev pub unanswered : TableId → Reception T
  unanswered id = record { oneshot = id; answer = None }

  abbrev pub answered_by : Reception T → Option T → Reception T
  answered_by r answer = record { oneshot = r.oneshot; answer = Some answer }

  abbrev pub slip : TableId → T → Slip T
  slip id x = record { oneshot = id; sent = Some x }

  -- the answer of a receiver, which has one if and only if it no longer holds the place
  abbrev pub answer_of : {P : Type 0} → Option P → Option T → Option (Option T)
  answer_of (Some place) got = None
  answer_of None got = Some got

  -- one poll: `Pending` or a value only if there is no answer yet; `Err` as the answer that none was sent, or after an
  -- answer
  abbrev pub Receives : {E : Type 0} → Reception T → Poll (Result T E) → Reception T → Type 0
  Receives old Pending new = (old.answer ≡ None) × (new ≡ old)
  Receives old (Ready (Ok x)) new = (old.answer ≡ None) × (new ≡ answered_by old (Some x))
  Receives old (Ready (Err e)) new = MatchOption old.answer (new ≡ answered_by old None) (λ _. new ≡ old)
