use Rattle.std.proofs.Common.{◌≡◌, ℕ, List, Some, ◌∙◌, ap, subst, IfOk, IfSome, arith, false, []}
use Rattle.std.specs.String.{string_bytes}
use Rattle.std.specs.Option.{option_map}
use Rattle.std.specs.Fmt.{padded_integral, styled_digits_output, format_spec}
use Rattle.gt_digits.proofs.ShowDigits.{padded-hexadecimal}
use Rattle.gt_digits.proofs.writing.hexadecimal_text.Goals as goal

pub returns : goal.returns
returns c =
    subst (λ o. IfOk c.format.result (λ s. IfSome o (λ bs. string_bytes s ≡ bs)))
    (ap (λ s. styled_digits_output c.in_radix.result s) c.laid_out.ensures
    ∙ ap (option_map (padded_integral (format_spec 32 0 4 8 18446744073709551615) false [])) c.in_radix.ensures
    ∙ ap (λ (bs : List ℕ). Some bs) (padded-hexadecimal c.args.n (omega arith)))
    c.format.ensures.ok
