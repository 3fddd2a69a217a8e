-- Where each slot is, by the invariant of the row.
use Rattle.futures_buffered_table.proofs.Common.{◌≡◌, ℕ, ◌+◌, ◌<◌, List, [], ◌∷◌, refl, arith, Role, View, FitsRole, KeepsRow, outside, outside_by, Whereabouts, AgreesWith, takers, takes_by, wakers, wakes_by}

out_is : (n e : ℕ) (role : Role) → e < n → outside_by n e role ≡ wakes_by e role + takes_by e role
out_is n e role lt = grind arith

pub out_are : (n e : ℕ) (views : List View) → e < n → outside n views e ≡ wakers e views + takers e views
out_are n e [] lt = refl
out_are n e (v ∷ vs) lt = omega (arith, out_is n e v.role lt, out_are n e vs lt)

pub agrees : (n h : ℕ) (rest : List ℕ) (poller j : ℕ) (words : List ℕ) (role : Role) → FitsRole n words h rest poller j role →
    AgreesWith n h rest role
agrees n h rest poller j words role ok = grind arith

abbrev pub whereabouts : {n h : ℕ} {rest : List ℕ} {poller : ℕ} {words : List ℕ} {views : List View} →
    KeepsRow n h rest poller words views → Whereabouts n words views
whereabouts {n} {h} {rest} {poller} {words} {views} R = record {
  head = h;
  rest = rest;
  linked = λ p there. (R.linked p there).1;
  ends = R.ends;
  seats = λ j v at. agrees n h rest poller j words v.role (R.seats j v at).0;
  slots = λ e lt. let a = R.whereabouts e lt in let b = out_are n e views lt in (omega arith, a.1);
}
