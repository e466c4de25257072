-- Values that may be missing, one got from the other.
use Rattle.std.proofs.Common.{◌≡◌, Bool, true, false, cond, refl, Option, Some, None}
use Rattle.gt_tree.specs.Scopes.{◌then◌}

pub then-same : {X Y : Type 0} (o : Option X) (f g : X → Option Y) → ((x : X) → f x ≡ g x) → (o then f) ≡ (o then g)
then-same None f g same = refl
then-same (Some x) f g same = same x

pub then-then : {X Y Z : Type 0} (o : Option X) (f : X → Option Y) (g : Y → Option Z) → ((o then f) then g) ≡ (o then λ x. f x then g)
then-then None f g = refl
then-then (Some x) f g = refl

pub then-none : {X Y : Type 0} (o : Option X) (f : X → Option Y) → ((x : X) → f x ≡ None) → (o then f) ≡ None
then-none None f none = refl
then-none (Some x) f none = none x

pub cond-then : {X Y : Type 0} (b : Bool) (x : X) (f : X → Option Y) → (cond b (Some x) None then f) ≡ cond b (f x) None
cond-then true x f = refl
cond-then false x f = refl
