-- Names of files from left to right.
use Rattle.std.proofs.Common.{◌≡◌, ◌∙◌, ◌≤◌, ℕ, List, [], ◌∷◌, ◌++◌, ◌<◌, ◌+◌, length, get_or, drop, refl, sym, ap, add-one, drop-cons, Bor, append_assoc}
use Rattle.std.proofs.lemmas.List.{append-nil, drop_all}
use Rattle.std.specs.Prelude.{Option, Some, None}
use Rattle.clap.specs.Walk.{Text, texts}
use Rattle.gt_words.specs.Calls.{name_of, names_of, ◌>>=◌}

-- the names so far, and then those of the rest
abbrev pub following : List (List ℕ) → Option (List (List ℕ)) → Option (List (List ℕ))
following front None = None
following front (Some names) = Some (front ++ names)

one_more : (front : List (List ℕ)) (name : List ℕ) (rest : Option (List (List ℕ)))
    → following (front ++ name ∷ []) rest ≡ following front (rest >>= (λ names. Some (name ∷ names)))
one_more front name None = refl
one_more front name (Some names) = ap Some (append_assoc front (name ∷ []) names)

-- a word that names no file
stops : (front : List (List ℕ)) (t : Text) (ts : List Text) → name_of t ≡ None → following front (names_of (t ∷ ts)) ≡ None
unfolding names_of
stops front t ts e = rw e refl

-- a word that names one
goes_on : (front : List (List ℕ)) (t : Text) (ts : List Text) (name : List ℕ) → name_of t ≡ Some name
    → following (front ++ name ∷ []) (names_of ts) ≡ following front (names_of (t ∷ ts))
unfolding names_of
goes_on front t ts name e = rw e (one_more front name (names_of ts))

pub none_at : (front : List (List ℕ)) (ts : List (Bor Text)) (i : ℕ) (d : Bor Text) → i < length ts → name_of (get_or ts i d).now ≡ None
    → following front (names_of (texts (drop i ts))) ≡ names_of (texts ts) → names_of (texts ts) ≡ None
none_at front ts i d lt e so_far = sym so_far ∙ (ap (λ rest. following front (names_of (texts rest))) (drop-cons ts i d lt) ∙ stops front _ _ e)

pub some_at : (front : List (List ℕ)) (ts : List (Bor Text)) (i : ℕ) (d : Bor Text) (name : List ℕ) → i < length ts → name_of (get_or ts i d).now ≡ Some name
    → following front (names_of (texts (drop i ts))) ≡ names_of (texts ts) → following (front ++ name ∷ []) (names_of (texts (drop (i + 1) ts))) ≡ names_of (texts ts)
some_at front ts i d name lt e so_far =
    ap (λ k. following (front ++ name ∷ []) (names_of (texts (drop k ts)))) (add-one i)
    ∙ (goes_on front _ _ name e ∙ (sym (ap (λ rest. following front (names_of (texts rest))) (drop-cons ts i d lt)) ∙ so_far))

pub at_end : (front : List (List ℕ)) (ts : List (Bor Text)) (i : ℕ) → length ts ≤ i
    → following front (names_of (texts (drop i ts))) ≡ names_of (texts ts) → names_of (texts ts) ≡ Some front
unfolding names_of
at_end front ts i le so_far = sym so_far ∙ (ap (λ rest. following front (names_of (texts rest))) (drop_all i ts le) ∙ ap Some (append-nil front))
