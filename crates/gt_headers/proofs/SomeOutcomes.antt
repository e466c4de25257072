-- Texts come to something: a program or a first fault.
use Rattle.std.proofs.Common.{◌⊎◌, inl, inr, ℕ, ◌+◌, List, [], ◌∷◌, refl, ap, arith}
use Rattle.gt_types.specs.declared.faults.Fault.{Fault}
use Rattle.gt_types.specs.declared.program.Program.{Program}
use Rattle.gt_items.specs.declared.items.Items.{Items}
use Rattle.gt_drafts.specs.declared.draft.Draft.{Draft}
use Rattle.gt_exists.specs.Outcomes.{HasReading, has_items, has_token_fault, has_item_fault, HasResolution, has_draft, has_fault}
use Rattle.gt_headers.specs.Reading.{AreRead, IsReadingFault, IsTextFault}
use Rattle.gt_headers.specs.Headers.{AreResolved, Declares, IsFirstFault}

-- all texts are read, or one is the first with a fault
abbrev Reads : List (List ℕ) → Type 0
Reads texts = ((files : List Items) × AreRead texts files) ⊎ ((fault : Fault) × IsReadingFault texts fault)

-- the first text has this fault
faulty : (text : List ℕ) (texts : List (List ℕ)) (number at : ℕ) → IsTextFault text number at → Reads (text ∷ texts)
faulty text texts number at first =
    inr (record { number = number; file = 1; at = at }, record { before = []; text = text; after = texts; split = refl; files = []; are_read = tt; file = refl; first = first })

-- a text more before those that are read
more : (text : List ℕ) (texts : List (List ℕ)) → HasReading text → Reads texts → Reads (text ∷ texts)
more text texts (has_token_fault number at first) rest = faulty text texts number at (inl first)
more text texts (has_item_fault tokens defines number at lexed first) rest = faulty text texts number at (inr (tokens, defines, lexed, first))
more text texts (has_items tokens defines items lexed parsed) (inl (files, are)) =
    inl (items ∷ files, (record { tokens = tokens; defines = defines; lexed = lexed; parsed = parsed }, are))
more text texts (has_items tokens defines items lexed parsed) (inr (fault, r)) =
    inr (
      record { number = fault.number; file = fault.file + 1; at = fault.at },
      record {
        before = text ∷ r.before;
        text = r.text;
        after = r.after;
        split = ap (λ (ts : List (List ℕ)). text ∷ ts) r.split;
        files = items ∷ r.files;
        are_read = (record { tokens = tokens; defines = defines; lexed = lexed; parsed = parsed }, r.are_read);
        file = let at = r.file in omega (arith, at);
        first = r.first;
      },
    )

reads : ((text : List ℕ) → HasReading text) → (texts : List (List ℕ)) → Reads texts
reads each [] = inl ([], tt)
reads each (text ∷ texts) = more text texts (each text) (reads each texts)

-- neither a program nor a first fault cannot be
pub not_nothing : ((text : List ℕ) → HasReading text) → ((files : List Items) → ¬ (¬ HasResolution files))
    → ((texts : List (List ℕ)) (draft : Draft) → AreResolved texts draft → ((program : Program) → ¬ Declares texts program) → ((fault : Fault) → ¬ IsFirstFault texts fault) → ⊥)
    → (texts : List (List ℕ)) → ((program : Program) → ¬ Declares texts program) → ((fault : Fault) → ¬ IsFirstFault texts fault) → ⊥
not_nothing each resolution resolved texts no_program no_fault = by_reading (reads each texts)
  where
    by_resolution : (files : List Items) → AreRead texts files → HasResolution files → ⊥
    by_resolution files are (has_draft draft resolves) = resolved texts draft (record { files = files; are_read = are; resolved = resolves }) no_program no_fault
    by_resolution files are (has_fault fault first) = no_fault fault (inr (inl (files, are, first)))

    by_reading : Reads texts → ⊥
    by_reading (inl (files, are)) = resolution files (by_resolution files are)
    by_reading (inr (fault, r)) = no_fault fault (inl r)
