-- Texts are read one after another.
use Rattle.std.proofs.Common.{◌≡◌, ℕ, ◌+◌, ◌<◌, ◌≤◌, List, [], ◌∷◌, ◌++◌, length, take, drop, get_or, refl, sym, ap, subst, ◌∙◌, arith}
use Rattle.std.proofs.lemmas.List.{drop_more, length-take-le, take-append-drop, take_more}
use Rattle.gt_types.specs.declared.faults.Stop.{Stop}
use Rattle.gt_types.specs.declared.faults.Stop.TheVariants.{Memory, At}
use Rattle.gt_items.specs.declared.items.Items.{Items}
use Rattle.gt_headers.specs.Reading.{AreRead, IsRead}
use Rattle.gt_headers.specs.Stops.{IsReadingStop, IsTextStop}

-- as many files are read as there are texts
pub AreRead-long : (texts : List (List ℕ)) (files : List Items) → AreRead texts files → length files ≡ length texts
AreRead-long [] [] read = refl
AreRead-long [] (x ∷ files) read = absurd read
AreRead-long (text ∷ texts) [] read = absurd read
AreRead-long (text ∷ texts) (x ∷ files) read = let long = AreRead-long texts files read.1 in omega (arith, long)

read_push : (texts : List (List ℕ)) (files : List Items) (text : List ℕ) (items : Items) → AreRead texts files → IsRead text items → AreRead (texts ++ text ∷ []) (files ++ items ∷ [])
read_push [] [] text items read one = (one, tt)
read_push [] (x ∷ files) text items read one = absurd read
read_push (t ∷ texts) [] text items read one = absurd read
read_push (t ∷ texts) (x ∷ files) text items read one = (read.0, read_push texts files text items read.1 one)

-- one more text is read
pub read_more : (texts : List (List ℕ)) (files more : List Items) (k : ℕ) (text shown : List ℕ) (items : Items) → k < length texts → text ≡ get_or texts k text
    → shown ≡ text → AreRead (take k texts) files → IsRead shown items → more ≡ files ++ items ∷ [] → AreRead (take (k + 1) texts) more
read_more texts files more k text shown items l at same read one is =
    let front : take (k + 1) texts ≡ take k texts ++ shown ∷ [] = take_more texts k text l ∙ ap (λ (t : List ℕ). take k texts ++ t ∷ []) (sym (same ∙ at)) in
    subst (λ (fs : List Items). AreRead (take (k + 1) texts) fs) (sym is)
    (subst (λ (ts : List (List ℕ)). AreRead ts (files ++ items ∷ [])) (sym front) (read_push (take k texts) files shown items read one))

-- a text that stops is the first with a fault
pub stops_at : (texts : List (List ℕ)) (files : List Items) (k : ℕ) (text shown : List ℕ) → k < length texts → text ≡ get_or texts k text → shown ≡ text
    → AreRead (take k texts) files → (stop : Stop) → IsTextStop (k + 1) shown stop → IsReadingStop texts stop
stops_at texts files k text shown l at same read Memory is = tt
stops_at texts files k text shown l at same read (At fault) is =
    let long : length (take k texts) ≡ k = length-take-le k texts (omega (arith, l)) in
    let following : drop k texts ≡ shown ∷ drop (k + 1) texts = drop_more texts k text l ∙ ap (λ (t : List ℕ). t ∷ drop (k + 1) texts) (sym (same ∙ at)) in
    record {
      before = take k texts;
      text = shown;
      after = drop (k + 1) texts;
      split = sym (take-append-drop k texts) ∙ ap (λ (ts : List (List ℕ)). take k texts ++ ts) following;
      files = files;
      are_read = read;
      file = is.0 ∙ ap (λ (n : ℕ). n + 1) (sym long);
      first = is.1;
    }

-- so few
pub read_few : (texts : List (List ℕ)) (files seen : List Items) → seen ≡ files → AreRead texts files → length texts ≤ 64 → length seen ≤ 64
read_few texts files seen e read few = let long = AreRead-long texts files read in omega (arith, long, few, ap length e)
