use Rattle.std.proofs.Common.{◌≡◌, ℕ, List, get_or, rules}
use Rattle.std.specs.Rc.{rc_str_bytes}
use Rattle.gt_lex.specs.declared.tokens.Token.{Token}
use Rattle.gt_lex.proofs.Slices.{tokens_in_order, tokens_are_slices}
use Rattle.gt_search.proofs.Cuts.{MayBeCut, token_cut}
use Rattle.gt_search.proofs.lexemes.read_lexemes.Goals as goal
use Rattle.gt_search.proofs.lexemes.read_lexemes.Goals.{In-loop-token}

cut : (c : In-loop-token) (whole : List ℕ) (d : Token) → whole ≡ c.args.text.now
    → MayBeCut whole (get_or c.as_slice-token-items.result.now c.loop-token.token-index d).start (get_or c.as_slice-token-items.result.now c.loop-token.token-index d).end
cut c whole d same =
    token_cut c.args.text.now c.args.lexed.now.tokens c.requires.utf8 (tokens_in_order c.args.text.now c.args.lexed.now.tokens c.args.lexed.now.defines c.requires)
    (tokens_are_slices c.args.text.now c.args.lexed.now.tokens c.args.lexed.now.defines c.requires) whole c.as_slice-token-items.result.now same c.as_slice-token-items.ensures.items c.loop-token.token-index d c.loop-token-test.true

pub unreachable-requires-in_default-part : goal.unreachable-requires-in_default-part
unreachable-requires-in_default-part c =
    let same : rc_str_bytes c.in_ok-clone.field-0 ≡ c.args.text.now = search rules in
    c.in_default-part.ensures.part (cut (goal.at.unreachable-requires-in_default-part c).In-loop-token (rc_str_bytes c.in_ok-clone.field-0) _ same)
