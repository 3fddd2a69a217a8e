-- What a contract sees of the ledger of a set in flight: the tickets that are out, and up to which push each slot was
-- cancelled.
use Rattle.std.specs.Prelude.{◌≡◌, ◌<◌, ℕ, max, Bool, true, cond, ◌&&◌, ◌==◌, List, [], ◌∷◌, slice_index_or}
use Rattle.atomic_table.specs.Seated.{TableId}
use Rattle.futures_buffered_in_flight.specs.declared.run.Key.{Key}

-- a ledger: which one it is, how often it was cleared, the keys of the tickets that were given since then and are out,
-- and what runs could read of it: for each slot a number, the newest numbers first
pub record Account : Type 0 where
  pub id : TableId
  pub clears : ℕ
  pub tickets : List Key
  pub told : List (List ℕ)

-- a ticket: of which ledger, after how many clears, and with which key it was given; and whether it is still in its place
pub record Stub : Type 0 where
  pub id : TableId
  pub clears : ℕ
  pub key : Key
  pub live : Bool

-- a notice: of which ledger, and the number of each slot that was read
pub record Reading : Type 0 where
  pub id : TableId
  pub told : List ℕ

-- the notice was read in the ledger of this ticket, and says that its push, or a later push into its slot, was cancelled
abbrev pub IsNotice : Stub → Reading → Type 0
IsNotice ticket notice = (notice.id ≡ ticket.id) × (ticket.key.push < slice_index_or notice.told ticket.key.slot 0)

-- the ledger of a set that was not made yet
abbrev pub no_account : Account
no_account = record {
  id = record { words = 0; slots = 0; views_name = 0; atom = 0; block = 0; offset = 0; slot_names = [] };
  clears = 0;
  tickets = [];
  told = [];
}

-- this ledger gave the ticket since it was cleared
abbrev pub IsGivenBy : Account → Stub → Type 0
IsGivenBy ledger ticket = (ticket.id ≡ ledger.id) × (ticket.clears ≡ ledger.clears) × (ticket.live ≡ true)

-- whether two keys are equal
abbrev pub same_key : Key → Key → Bool
same_key a b = (a.slot == b.slot) && (a.push == b.push)

-- the keys without the first that is equal to this one
abbrev pub without : Key → List Key → List Key
without key [] = []
without key (k ∷ ks) = cond (same_key key k) ks (k ∷ without key ks)

-- a number that is above each cancelled push of this slot, and at most one more than the last of them; 0 if there is
-- none
abbrev pub told_to : List (List ℕ) → ℕ → ℕ
told_to [] slot = 0
told_to (numbers ∷ more) slot = max (slice_index_or numbers slot 0) (told_to more slot)
