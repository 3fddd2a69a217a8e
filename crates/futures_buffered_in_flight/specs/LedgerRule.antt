-- The rule of a ledger, and what its steps say. The word is 0 while the numbers are at home, and another number while a
-- seat has them.
use Rattle.std.specs.Prelude.{◌≡◌, ◌≢◌, ◌+◌, ◌<◌, ◌≤◌, ℕ, Bool, true, false, ◌&&◌, ◌==◌, List, [], ◌∷◌, Option, Some, None, Vec}
use Rattle.std.specs.Prelude.{count_by, slice_index_or}
use Rattle.std.specs.declared.alloc.Global.{Global}
use mathlib.Core.Option as maybe
use mathlib.Core.Option.{some}
use lib.ListN.{get_elem?}
use Rattle.atomic_table.specs.Table.{State, Me, rest}
use Rattle.atomic_table.specs.Seated.{TableId}
use Rattle.futures_buffered_in_flight.specs.Ledger.{Account, same_key, told_to, without}
use Rattle.futures_buffered_in_flight.specs.declared.run.Key.{Key}
use Rattle.futures_buffered_in_flight.specs.declared.ledger.Book.{Book}
use Rattle.futures_buffered_in_flight.specs.declared.ledger.View.{View}
use Rattle.futures_buffered_in_flight.specs.declared.ledger.View.TheVariants.{Spent, Owner, Returned, Shown, Ticket, Notice}

-- what the slot of the table holds
abbrev pub Numbers : Type 0
Numbers = Option (Vec ℕ Global)

-- the number of each slot; no number is 0 for each slot
abbrev pub items_of : Numbers → List ℕ
items_of None = []
items_of (Some numbers) = numbers.items

-- a book of which no ticket was given and no number was read
abbrev pub new_book : Book
new_book = record { clears = 0; tickets = []; told = [] }

-- what the set knows of its ledger, by the view of its seat
abbrev pub book_of : View → Book
book_of (Owner book) = book
book_of v = new_book

-- after how many clears a ticket was given, by the view of its seat
abbrev pub clears_of : View → ℕ
clears_of (Ticket clears key) = clears
clears_of v = 0

-- after how many clears a ticket was given, by the view of its badge; 0 if the badge is blank
abbrev pub clears_in : List View → ℕ
clears_in [] = 0
clears_in (v ∷ vs) = clears_of v

-- whether a badge has a view
abbrev pub is_live : List View → Bool
is_live [] = false
is_live (v ∷ vs) = true

-- a badge is blank, or is of a ticket with this key
abbrev pub IsTicket : Key → List View → Type 0
IsTicket key [] = Unit {0}
IsTicket key (v ∷ vs) = (v ≡ Ticket (clears_of v) key) × (vs ≡ [])

-- the key of a ticket, by the view of its seat
abbrev pub key_of : View → Key
key_of (Ticket clears key) = key
key_of v = record { push = 0; slot = 0 }

-- the numbers that a notice read, by the view of its seat
abbrev pub read_by : View → List ℕ
read_by (Notice numbers) = numbers
read_by v = []

abbrev pub account : TableId → Book → Account
account id book = record { id = id; clears = book.clears; tickets = book.tickets; told = book.told }

-- the book after a ticket with this key was given
abbrev pub with_given : Key → Book → Book
with_given key book = record { clears = book.clears; tickets = key ∷ book.tickets; told = book.told }

-- the book after the ticket with this key came back
abbrev pub with_returned : Key → Book → Book
with_returned key book = record { clears = book.clears; tickets = without key book.tickets; told = book.told }

-- the book after all tickets were given up
abbrev pub with_cleared : Book → Book
with_cleared book = record { clears = book.clears + 1; tickets = []; told = book.told }

-- the book after these numbers were written
abbrev pub with_told : List ℕ → Book → Book
with_told numbers book = record { clears = book.clears; tickets = book.tickets; told = numbers ∷ book.told }

-- the number of each slot is at most a number that was written
abbrev pub IsTold : List ℕ → List (List ℕ) → Type 0
IsTold numbers told = (slot : ℕ) → slice_index_or numbers slot 0 ≤ told_to told slot

-- whether a seat is of a ticket with this key, that was given after so many clears
abbrev pub is_ticket : ℕ → Key → View → Bool
is_ticket clears key (Ticket n k) = (n == clears) && same_key key k
is_ticket clears key v = false

-- What the view of a seat says is true of the ledger: of the seat of the set, and of its book.
abbrev pub Fits : ℕ → Book → ℕ → View → Type 0
Fits owner book seat Spent = Unit {0}
Fits owner book seat (Owner known) = (seat ≡ owner) × (known ≡ book)
Fits owner book seat (Returned before key) = (seat ≡ owner) × (with_returned key before ≡ book)
    × (0 < count_by (same_key key) before.tickets)
Fits owner book seat (Shown known numbers) = (seat ≡ owner) × (known ≡ book) × IsTold numbers book.told
Fits owner book seat (Ticket clears key) = clears ≤ book.clears
Fits owner book seat (Notice numbers) = IsTold numbers book.told

-- what holds between any two steps
pub record HoldsLedger (s : State Numbers View) : Type 0 where
  -- the seat of the set, and what the set knows
  pub owner : ℕ
  pub book : Book
  -- the word, and what the slot holds: `none` while a seat has it
  pub word : ℕ
  pub home : maybe.Option Numbers
  pub words : s.words ≡ word ∷ []
  pub homes : s.homes ≡ home ∷ []
  -- the numbers are at home while the word is 0
  pub free : word ≡ 0 → (y : Numbers) × (home ≡ some y)
  -- numbers that are at home were written
  pub written : (y : Numbers) → home ≡ some y → IsTold (items_of y) book.told
  -- what each seat knows is true
  pub each_view : (seat : ℕ) (v : View) → get_elem? s.views seat ≡ some v → Fits owner book seat v
  -- no more tickets of a key are out than the book has
  pub counts : (key : Key) → count_by (is_ticket book.clears key) s.views ≤ count_by (same_key key) book.tickets

abbrev pub Mine : Type 0
Mine = Me Numbers View

-- the seat is the set's, and has no slot
abbrev pub IsOwner : Mine → Type 0
IsOwner me = me ≡ (Owner (book_of me.0), [])

-- What a load tells a seat, by what the seat knows: that the key of a ticket was in the book, or that the numbers of a
-- notice were written.
abbrev pub looked : Mine → ℕ → Mine → Type 0
looked (Returned before key, held) found n = (n ≡ (Owner (with_returned key before), held))
    × (0 < count_by (same_key key) before.tickets)
looked (Shown known numbers, held) found n = (n ≡ (Owner known, held)) × IsTold numbers known.told
looked (v, held) found n = n ≡ (v, held)

-- the set gives up all tickets
abbrev pub cleared : Mine → Mine → Type 0
cleared m n = n ≡ (Owner (with_cleared (book_of m.0)), m.1)

-- a seat that read the word as 0 has the numbers, and another seat changed nothing
abbrev pub claimed : Mine → ℕ → Mine → Type 0
claimed m found n = (found ≡ 0 → (y : Numbers) × (n ≡ (m.0, (0, y) ∷ [])) × IsTold (items_of y) (book_of m.0).told)
    × (found ≢ 0 → n ≡ m)

-- a new seat that read the word as 0 has the numbers, and knows them
abbrev pub arrived : ℕ → Mine → Type 0
arrived found n = (found ≡ 0 → (y : Numbers) × (n ≡ (Notice (items_of y), (0, y) ∷ []))) × (found ≢ 0 → n ≡ (Spent, []))

-- a seat may leave these numbers in the ledger and keep its view
abbrev pub MayLeave : View → List ℕ → Type 0
MayLeave (Owner book) numbers = IsTold numbers book.told
MayLeave (Notice read) numbers = read ≡ numbers
MayLeave v numbers = ⊥

-- the numbers that a seat has
abbrev pub carried : List (ℕ × Numbers) → List ℕ
carried [] = []
carried (x ∷ xs) = items_of x.1

-- a seat leaves the numbers, and knows what it knew
abbrev pub left : Mine → Mine → Type 0
left m n = n ≡ (m.0, rest m.1)

-- the set leaves the numbers, and its book has them
abbrev pub wrote : Mine → Mine → Type 0
wrote m n = n ≡ (Owner (with_told (carried m.1) (book_of m.0)), rest m.1)
