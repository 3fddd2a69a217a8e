-- The row of entries h ∷ rest, from the poller's head to the tail word. The next entry follows by a link, or by the
-- view of a seat that is about to write that link.
use Rattle.std.specs.Prelude.{◌≡◌, ◌⊎◌, ℕ, suc, ◌+◌, ◌<◌, ◌==◌, List, [], ◌∷◌, if◌then◌else◌}
use Rattle.futures_buffered_table.specs.Types.{StubPut, Role, Swapped, Polls, View}
use Rattle.futures_buffered_table.specs.Words.{link}

-- the sum of f over xs
abbrev pub total : {X : Type 0} → (X → ℕ) → List X → ℕ
total f [] = 0
total f (x ∷ xs) = f x + total f xs

-- 1 if the two numbers are the same, otherwise 0
abbrev pub same : ℕ → ℕ → ℕ
same a b = if a == b then 1 else 0

-- how often `e` is in the row
abbrev pub times : ℕ → List ℕ → ℕ
times e row = total (same e) row

-- the entry after `p` in the row that begins with `h`, as a link holds it: 0 for none
abbrev pub next : ℕ → ℕ → List ℕ → ℕ
next p h [] = 0
next p h (x ∷ xs) = if p == h then suc x else next p x xs

-- the last entry of the row that begins with `h`
abbrev pub last_entry : ℕ → List ℕ → ℕ
last_entry h [] = h
last_entry h (x ∷ xs) = last_entry x xs

-- 1 if this role owes the link of `p`, otherwise 0: it has swapped the tail and not yet written the link
abbrev pub owed_by : ℕ → Role → ℕ
owed_by p (Swapped i q) = same p q
owed_by p (Polls h (StubPut q)) = same p q
owed_by p _ = 0

-- how many seats owe the link of `p`
abbrev pub owed : List View → ℕ → ℕ
owed views p = total (λ v. owed_by p v.role) views

-- The link of `p` points to the next entry, and no seat owes it. Or it points to none, one seat owes it, and there is a
-- next entry.
abbrev pub IsLinked : ℕ → ℕ → ℕ → Type 0
IsLinked next link owed = ((link ≡ next) × (owed ≡ 0)) ⊎ ((link ≡ 0) × (owed ≡ 1) × (0 < next))
