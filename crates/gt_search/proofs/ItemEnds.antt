-- How an item ends that has begun, one token at a time.
use Rattle.std.proofs.Common.{◌≡◌, ℕ, suc, ◌+◌, ◌<◌, ◌≤◌, List, [], ◌∷◌, length, get_or, drop, refl, ap, ◌∙◌, sym, arith}
use Rattle.std.proofs.lemmas.List.{at_drop_more, drop_all}
use Rattle.gt_search.specs.declared.lexeme.Lexeme.{Lexeme}
use Rattle.gt_search.specs.declared.search.Begun.{Begun}
use Rattle.gt_search.specs.declared.search.ItemEnd.{ItemEnd}
use Rattle.gt_search.specs.declared.search.ItemEnd.TheVariants.{Whole, Unmatched, Unended}
use Rattle.gt_search.specs.declared.search.Step.{Step}
use Rattle.gt_search.specs.declared.search.Step.TheVariants.{Goes}
use Rattle.gt_search.specs.Searching.{none_begun, step, one_longer, end_after, item_end}

-- so many tokens stand before
abbrev pub longer : ℕ → ItemEnd → ItemEnd
longer n (Whole len) = Whole (n + len)
longer n (Unmatched at) = Unmatched at
longer n Unended = Unended

pub longer-one_longer : (n : ℕ) (end : ItemEnd) → longer n (one_longer end) ≡ longer (n + 1) end
longer-one_longer n (Whole len) = let e : n + suc len ≡ n + 1 + len = omega arith in ap Whole e
longer-one_longer n (Unmatched at) = refl
longer-one_longer n Unended = refl

pub item_end-step : (begun : Begun) (t : Lexeme) (ts : List Lexeme) → item_end begun (t ∷ ts) ≡ end_after (λ next. item_end next ts) (step begun t)
unfolding item_end
item_end-step begun t ts = refl

pub item_end-nil : (begun : Begun) → item_end begun [] ≡ Unended
unfolding item_end
item_end-nil begun = refl

-- the state after the first tokens tells the rest
module _ (tokens : List Lexeme) (i : ℕ) (begun : Begun) (so_far : item_end none_begun tokens ≡ longer i (item_end begun (drop i tokens))) where
  pub at_step : (t : Lexeme) (next : Step) → i < length tokens → t ≡ get_or tokens i t → next ≡ step begun t
      → item_end none_begun tokens ≡ longer i (end_after (λ further. item_end further (drop (i + 1) tokens)) next)
  at_step t next lt is e =
      so_far ∙ ap (longer i) (at_drop_more (item_end begun) tokens i t lt ∙ item_end-step begun (get_or tokens i t) (drop (i + 1) tokens)
      ∙ ap (end_after (λ further. item_end further (drop (i + 1) tokens))) (ap (step begun) (sym is) ∙ sym e))

  pub at_next : (t : Lexeme) (next : Begun) → i < length tokens → t ≡ get_or tokens i t → Goes next ≡ step begun t → item_end none_begun tokens ≡ longer (i + 1) (item_end next (drop (i + 1) tokens))
  at_next t next lt is e = at_step t (Goes next) lt is e ∙ longer-one_longer i (item_end next (drop (i + 1) tokens))

  pub at_end : length tokens ≤ i → item_end none_begun tokens ≡ Unended
  at_end le = so_far ∙ ap (λ ts. longer i (item_end begun ts)) (drop_all i tokens le) ∙ ap (longer i) (item_end-nil begun)
