-- What a `Doubling` may give.
use Rattle.std.proofs.Common.{◌≡◌, ℕ, ◌*◌, List, [], ◌∷◌}
use Rattle.std.specs.List.{FoldsTo}
use Rattle.futures.specs.declared.task.Poll.TheVariants.{Ready, Pending}
use Rattle.futures_buffered.specs.Held.{MayGive}
use Rattle.guide.specs.Doubling.{Doubles}
use Rattle.guide.specs.declared.proved.doubling.Doubling.{Doubling}

-- no poll of it is pending, so the poll that is ready is the first
at_once : (f : Doubling) (later : List Doubling) (last after : Doubling) (x : ℕ)
    → FoldsTo (λ g h k. Doubles g Pending h × (k ≡ h)) f later last → Doubles last (Ready x) after → x ≡ 2 * f.number
at_once f [] last after x row ready = cc
at_once f (next ∷ later) last after x row ready = cc

-- twice its number, and nothing else
pub gives_twice : (f : Doubling) (x : ℕ) → MayGive Doubles f x → x ≡ 2 * f.number
gives_twice f x may = at_once f may.0 may.1 may.2 x may.3 may.4
