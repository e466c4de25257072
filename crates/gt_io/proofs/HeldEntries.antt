-- What the files that a list of entries makes hold.
use Rattle.std.proofs.Common.{◌≡◌, ℕ, cond, List, [], ◌∷◌, refl, sym, ap, ◌∙◌, Some}
use Rattle.std.specs.Ordering.{nat_cmp}
use Rattle.std.specs.Cmp.{eq_by_cmp_equiv}
use Rattle.std.specs.Cmp.Lexicographic.{slice_cmp, nat_list_cmp_total}
use Rattle.std.specs.BTreeMap.{is_at}
use Rattle.std.specs.Map.{lookup}
use Rattle.std.specs.FinMap.{find, get-from_entries, get-insert, same_map, nat_cmp-IsAntisymmetric, slice_cmp-IsAntisymmetric}
use Rattle.gt_io.specs.Held.{held_of, contents, with_contents}

find-lookup : (es : List (List ℕ × List ℕ)) (q : List ℕ) → find (slice_cmp nat_cmp) q es ≡ lookup (is_at (slice_cmp nat_cmp q)) es
find-lookup [] q = refl
find-lookup (e ∷ es) q = ap (cond (is_at (slice_cmp nat_cmp q) e.0) (Some e.1)) (find-lookup es q)

-- what is held under a name is what stands at the name in the entries
pub contents-held_of : (es : List (List ℕ × List ℕ)) (q : List ℕ) → contents (held_of es) q ≡ lookup (is_at (slice_cmp nat_cmp q)) es
contents-held_of es q = get-from_entries nat_list_cmp_total es q ∙ find-lookup es q

-- entries that differ at one name make files that differ there
pub held_of-put : (es fs : List (List ℕ × List ℕ)) (s n : List ℕ) → ((q : List ℕ) → lookup (is_at (slice_cmp nat_cmp q)) fs ≡ cond (is_at (slice_cmp nat_cmp s) q) (Some n) (lookup (is_at (slice_cmp nat_cmp q)) es)) → held_of fs ≡ with_contents (held_of es) s n
held_of-put es fs s n h = same_map nat_list_cmp_total (slice_cmp-IsAntisymmetric nat_cmp-IsAntisymmetric) _ _ (λ q.
    contents-held_of fs q ∙ h q ∙ ap (λ b. cond b (Some n) (lookup (is_at (slice_cmp nat_cmp q)) es)) ((eq_by_cmp_equiv nat_list_cmp_total).symm s q)
    ∙ sym (get-insert nat_list_cmp_total (held_of es) s n q ∙ ap (cond (is_at (slice_cmp nat_cmp q) s) (Some n)) (contents-held_of es q)))
