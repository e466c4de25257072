-- No promise: the proof that the blocks of the table have addresses, as `BlockNames` asks.
use Rattle.std.proofs.Common.{◌≡◌, ℕ, ◌<◌, ◌==◌, Bool, true, false, arith, refl}
use Rattle.std.specs.Prelude.{Option, Some, None, if◌then◌else◌}
use Rattle.std.proofs.lemmas.Bool.{eqb-true}
use Rattle.gt_tree.specs.Blocks.{Block}
use Rattle.gt_tree.specs.FixedLaws.{AreAddresses}
use Rattle.gt_value.specs.Bytes.{itself}
use Rattle.value_notation.specs.Blocks.{blocks}

abbrev IsNear : ℕ → Type 0
IsNear id = (0 < id) × (id < 2048)

-- what is under an address is near, where all that is under others is
under : (k id : ℕ) (here rest : Option Block) (b : Block) → IsNear k → (rest ≡ Some b → IsNear id) → (t : Bool) → (id == k) ≡ t → (if t then here else rest) ≡ Some b → IsNear id
under k id here rest b near more true e h = let same : id ≡ k = eqb-true id k e in (omega (arith, near.0, same), omega (arith, near.1, same))
under k id here rest b near more false e h = more h

nothing : (id : ℕ) (b : Block) → None ≡ Some b → IsNear id
nothing id b e = absurd (cc)

near : (id : ℕ) (b : Block) → blocks id ≡ Some b → IsNear id
near id b =
    under 256 id _ _ b (omega arith, omega arith)
    (under 512 id _ _ b (omega arith, omega arith)
    (under 768 id _ _ b (omega arith, omega arith)
    (under 1024 id _ _ b (omega arith, omega arith)
    (under 1280 id _ _ b (omega arith, omega arith)
    (under 1536 id _ _ b (omega arith, omega arith)
    (under 1792 id _ _ b (omega arith, omega arith) (nothing id b) (id == 1792) refl)
    (id == 1536) refl)
    (id == 1280) refl)
    (id == 1024) refl)
    (id == 768) refl)
    (id == 512) refl)
    (id == 256) refl

pub addresses : AreAddresses blocks itself
addresses = record {
  not_null = λ id b h. (near id b h).0;
  small = λ id b h. let n = (near id b h).1 in omega (arith, n);
  apart = λ id other b c h i same. same;
}
