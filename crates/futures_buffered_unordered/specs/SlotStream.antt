-- What polls of one stream make together.
use Rattle.std.specs.Prelude.{◌≡◌, List, [], Option, Some, None, filter_map, ⊤}
use Rattle.std.specs.List.{FoldsTo, AllByRecursion}
use Rattle.futures.specs.declared.task.Poll.{Poll}
use Rattle.futures.specs.declared.task.Poll.TheVariants.{Ready, Pending}

-- the item that a poll returned, if any
abbrev pub item_of : {A : Type 0} → Poll (Option A) → Option A
item_of (Ready o) = o
item_of Pending = None

-- the items that these polls returned, in order
abbrev pub items_in : {A : Type 0} → List (Poll (Option A)) → List A
items_in = filter_map item_of

-- the poll did not return `Ready(None)`
abbrev pub IsNoEnd : {A : Type 0} → Poll (Option A) → Type 0
IsNoEnd (Ready (Some x)) = ⊤
IsNoEnd (Ready None) = ⊥
IsNoEnd Pending = ⊤

module _ {F A : Type 0} (polled : F → Poll (Option A) → F → Type 0) where
  -- polls in a row took `stream` to `now` and returned these items, in order, and none of them ended the stream
  pub record Gave (stream : F) (items : List A) (now : F) : Type 0 where
    pub answers : List (Poll (Option A))
    pub polls : FoldsTo polled stream answers now
    pub go_on : AllByRecursion IsNoEnd answers
    pub gave : items ≡ items_in answers

  -- what a place held, the items that its stream has returned since, and what the place holds now: the stream as its
  -- polls left it, or nothing once a further poll has ended the stream; an empty place stays empty
  abbrev pub Became : Option F → List A → Option F → Type 0
  Became None items now = (items ≡ []) × (now ≡ None)
  Became (Some stream) items (Some now) = Gave stream items now
  Became (Some stream) items None = (last : F) × (ended : F) × Gave stream items last × polled last (Ready None) ended
