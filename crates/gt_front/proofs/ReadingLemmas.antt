-- What the reading of files comes to, one file more.
use Rattle.std.proofs.Common.{◌≡◌, ℕ, ◌+◌, ◌<◌, List, [], ◌∷◌, ◌++◌, length, get_or, take, drop, refl, ap, sym, subst, ◌∙◌, Option, Some, Result, Ok, append_assoc, arith}
use Rattle.std.proofs.lemmas.List.{take_more, drop_more, length-take-le, take-append-drop}
use Rattle.std.specs.List.{AllByRecursion}
use Rattle.gt_io.specs.declared.fail.ReadFail.{ReadFail}
use Rattle.gt_io.specs.Held.{Held}
use Rattle.gt_front.specs.declared.TheConstants.{MAX_HEADER_BYTES}
use Rattle.gt_front.specs.Texts.{File, headers_from, files_in_order, script_file, IsTextOf, AreTextsOf}
use Rattle.gt_front.specs.Order.{AreRead}
use Rattle.gt_front.specs.Comes.{IsThere}
use Rattle.gt_front.specs.Reading.{IsStopAt, IsStopIn, AreHeadersRead, HasStopped, IsAnswered}
use Rattle.gt_front.specs.declared.reading.ReadStop.{ReadStop}
use Rattle.gt_front.specs.declared.reading.ReadStop.TheVariants.{Memory, Refused}

-- the file of a header
abbrev pub header_file : ℕ → List ℕ → File
header_file word name = record { word = word; name = name; limit = MAX_HEADER_BYTES }

-- the files of names, and then those of the names after them
headers-append : (word at : ℕ) (front back : List (List ℕ)) → at ≡ word + length front → headers_from word (front ++ back) ≡ headers_from word front ++ headers_from at back
headers-append word at [] back is = let same : at ≡ word = omega arith in ap (λ w. headers_from w back) (sym same)
headers-append word at (name ∷ front) back is =
    let next : at ≡ word + 1 + length front = omega arith in ap (λ fs. header_file word name ∷ fs) (headers-append (word + 1) at front back next)

-- the files of headers up to one, which is the next
headers-take : (k word : ℕ) (names : List (List ℕ)) (name : List ℕ) → k < length names → name ≡ get_or names k name → word ≡ k + 1
    → headers_from 1 (take (k + 1) names) ≡ headers_from 1 (take k names) ++ header_file word name ∷ []
headers-take k word names name l is at =
    let size : length (take k names) ≡ k = length-take-le k names (omega arith) in
    let more : take (k + 1) names ≡ take k names ++ name ∷ [] = take_more names k name l ∙ ap (λ x. take k names ++ x ∷ []) (sym is) in
    ap (headers_from 1) more ∙ headers-append 1 word (take k names) (name ∷ []) (omega (arith, size))

-- the files of all headers, around the one at a place
headers-split : (k word : ℕ) (names : List (List ℕ)) (name : List ℕ) → k < length names → name ≡ get_or names k name → word ≡ k + 1
    → headers_from 1 names ≡ headers_from 1 (take k names) ++ header_file word name ∷ headers_from (word + 1) (drop (k + 1) names)
headers-split k word names name l is at =
    let size : length (take k names) ≡ k = length-take-le k names (omega arith) in
    let rest : drop k names ≡ name ∷ drop (k + 1) names = drop_more names k name l ∙ ap (λ x. x ∷ drop (k + 1) names) (sym is) in
    let whole : names ≡ take k names ++ name ∷ drop (k + 1) names = sym (take-append-drop k names) ∙ ap (λ x. take k names ++ x) rest in
    ap (headers_from 1) whole ∙ headers-append 1 word (take k names) (name ∷ drop (k + 1) names) (omega (arith, size))

-- one file more has its text
pub AreTextsOf-push : (told : Option Held) (files : List File) (texts : List (List ℕ)) (file : File) (text : List ℕ) → AreTextsOf told files texts → IsTextOf told file text
    → AreTextsOf told (files ++ file ∷ []) (texts ++ text ∷ [])
AreTextsOf-push told [] [] file text all one = (one, tt)
AreTextsOf-push told [] (t ∷ texts) file text all one = absurd all
AreTextsOf-push told (f ∷ files) [] file text all one = absurd all
AreTextsOf-push told (f ∷ files) (t ∷ texts) file text all one = (all.0, AreTextsOf-push told files texts file text all.1 one)

-- files with texts are there
pub are_there : (told : Option Held) (files : List File) (texts : List (List ℕ)) → AreTextsOf told files texts → AllByRecursion (IsThere told) files
are_there told [] [] all = tt
are_there told [] (t ∷ texts) all = absurd all
are_there told (f ∷ files) [] all = absurd all
are_there told (f ∷ files) (t ∷ texts) all = ((t, all.0), are_there told files texts all.1)

-- one header more was read
pub read_more : (told : Option Held) (names texts : List (List ℕ)) (k word : ℕ) (name text : List ℕ) → k < length names → name ≡ get_or names k name → word ≡ k + 1
    → AreHeadersRead told (take k names) texts → IsTextOf told (header_file word name) text → AreHeadersRead told (take (k + 1) names) (texts ++ text ∷ [])
read_more told names texts k word name text l is at all one =
    let P : List File → Type 0 = λ files. AreTextsOf told files (texts ++ text ∷ []) in
    subst P (sym (headers-take k word names name l is at)) (AreTextsOf-push told (headers_from 1 (take k names)) texts (header_file word name) text all one)

-- what stopped the reading of a header stopped that of all
pub stop_in : (told : Option Held) (names texts : List (List ℕ)) (k word : ℕ) (name : List ℕ) (stop : ReadStop) → k < length names → name ≡ get_or names k name → word ≡ k + 1
    → AreHeadersRead told (take k names) texts → IsStopAt told (header_file word name) stop → IsStopIn told names stop
stop_in told names texts k word name Memory l is at all stops = tt
stop_in told names texts k word name (Refused place why) l is at all stops = (
  let same : place ≡ word = stops.0 in omega arith,
  record {
    before = headers_from 1 (take k names);
    file = header_file word name;
    after = headers_from (word + 1) (drop (k + 1) names);
    split = headers-split k word names name l is at;
    are_there = are_there told (headers_from 1 (take k names)) texts all;
    word_is = sym stops.0;
    refused = stops.1;
  },
)

-- ---- what was read, by the reads of a store

module _ {F : Type 0} (reads : F → List ℕ → ℕ → Result (Option (List ℕ)) ReadFail → F → Type 0) where
  -- one file more was read
  pub AreRead-push : (store between last : F) (files : List File) (texts : List (List ℕ)) (file : File) (text : List ℕ) → AreRead reads store files texts between
      → reads between file.name file.limit (Ok (Some text)) last → AreRead reads store (files ++ file ∷ []) (texts ++ text ∷ []) last
  AreRead-push store between last [] [] file text all one =
      let R : F → Type 0 = λ s. reads s file.name file.limit (Ok (Some text)) last in (last, subst R all one, refl)
  AreRead-push store between last [] (t ∷ texts) file text all one = absurd all
  AreRead-push store between last (f ∷ files) [] file text all one = absurd all
  AreRead-push store between last (f ∷ files) (t ∷ texts) file text all one = (all.0, all.1, AreRead-push all.0 between last files texts file text all.2 one)

  -- one header more
  pub AreRead-headers : (store between last : F) (names texts : List (List ℕ)) (k word : ℕ) (name text : List ℕ) → k < length names → name ≡ get_or names k name → word ≡ k + 1
      → AreRead reads store (headers_from 1 (take k names)) texts between → reads between name MAX_HEADER_BYTES (Ok (Some text)) last
      → AreRead reads store (headers_from 1 (take (k + 1) names)) (texts ++ text ∷ []) last
  AreRead-headers store between last names texts k word name text l is at all one =
      let P : List File → Type 0 = λ files. AreRead reads store files (texts ++ text ∷ []) last in
      subst P (sym (headers-take k word names name l is at)) (AreRead-push store between last (headers_from 1 (take k names)) texts (header_file word name) text all one)

  -- the reading of headers stopped at one
  pub HasStopped-headers : (store between last : F) (names texts : List (List ℕ)) (k word : ℕ) (name : List ℕ) (stop : ReadStop) → k < length names → name ≡ get_or names k name → word ≡ k + 1
      → AreRead reads store (headers_from 1 (take k names)) texts between → IsAnswered reads between (header_file word name) stop last
      → HasStopped reads store (headers_from 1 names) stop last
  HasStopped-headers store between last names texts k word name Memory l is at all one = tt
  HasStopped-headers store between last names texts k word name (Refused place why) l is at all one =
      record {
        before = headers_from 1 (take k names);
        file = header_file word name;
        after = headers_from (word + 1) (drop (k + 1) names);
        split = headers-split k word names name l is at;
        word_is = sym one.0;
        texts = texts;
        between = between;
        are_read = all;
        stops = one.1;
      }

  -- and so did the reading of all files
  pub HasStopped-append : (store last : F) (files more : List File) (stop : ReadStop) → HasStopped reads store files stop last → HasStopped reads store (files ++ more) stop last
  HasStopped-append store last files more Memory f = tt
  HasStopped-append store last files more (Refused word why) f =
      record {
        before = f.before;
        file = f.file;
        after = f.after ++ more;
        split = ap (λ fs. fs ++ more) f.split ∙ append_assoc f.before (f.file ∷ f.after) more;
        word_is = f.word_is;
        texts = f.texts;
        between = f.between;
        are_read = f.are_read;
        stops = f.stops;
      }

  -- the reading stopped at the script, after the headers
  pub HasStopped-script : (store between last : F) (name : List ℕ) (headers texts : List (List ℕ)) (stop : ReadStop) → AreRead reads store (headers_from 1 headers) texts between
      → IsAnswered reads between (script_file name) stop last → HasStopped reads store (files_in_order name headers) stop last
  HasStopped-script store between last name headers texts Memory all one = tt
  HasStopped-script store between last name headers texts (Refused word why) all one =
      record {
        before = headers_from 1 headers;
        file = script_file name;
        after = [];
        split = refl;
        word_is = sym one.0;
        texts = texts;
        between = between;
        are_read = all;
        stops = one.1;
      }
