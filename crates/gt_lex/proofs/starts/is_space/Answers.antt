use Rattle.std.proofs.Common.{◌≡◌, ℕ, ◌≤◌, false, arith, rules, tests, sym, ◌∙◌, refl}
use Rattle.std.specs.Prelude.{◌==◌}
use Rattle.std.proofs.lemmas.Bool.{ne_eqb}
use Rattle.gt_text.specs.WhiteSpace.{is_white_space_of}
use Rattle.gt_lex.proofs.starts.is_space.Goals as goal

other : (a c : ℕ) → a ≤ 127 → 128 ≤ c → (a == c) ≡ false
other a c low high = ne_eqb a c (λ e. omega arith)

no_space : (c : ℕ) → 128 ≤ c → is_white_space_of c ≡ false
unfolding is_white_space_of
no_space c high =
    rw (other 9 c (omega arith) high, other 10 c (omega arith) high, other 11 c (omega arith) high, other 12 c (omega arith) high, other 13 c (omega arith) high, other 32 c (omega arith) high) refl

pub returns-else-is_ascii : goal.returns-else-is_ascii
returns-else-is_ascii c =
    let high : 128 ≤ c.args.c = search (rules, tests) in c.if-is_ascii.false ∙ sym (no_space c.args.c high)
