-- What one stage hands to the next, and why it stops.
use Rattle.std.proofs.Common.{◌≡◌, ℕ, ◌+◌, ◌≤◌, List, [], ◌∷◌, ◌++◌, length, refl, ap, sym, subst, ◌∙◌, Some, Option, Result, append_assoc, arith}
use Rattle.std.specs.Prelude.{All}
use Rattle.std.proofs.lemmas.List.Elements.{All-nil, All-cons}
use Rattle.gt_io.specs.declared.fail.ReadFail.{ReadFail}
use Rattle.gt_io.specs.Held.{Held}
use Rattle.gt_words.specs.declared.call.Call.{Call}
use Rattle.gt_words.specs.declared.call.Script.{Script as ScriptWord}
use Rattle.gt_words.specs.declared.call.Script.TheVariants.{File as FileWord}
use Rattle.gt_words.specs.Calls.{call_of}
use Rattle.gt_words.specs.Ranges.{HasHeaders}
use Rattle.gt_front.specs.declared.TheConstants.{MAX_HEADER_BYTES}
use Rattle.gt_front.specs.Texts.{File, Texts, files_in_order, script_file, headers_from, IsTextOf, AreTextsOf}
use Rattle.gt_front.specs.Asks.{AreTextsFor, Calls, Reads}
use Rattle.gt_front.specs.Comes.{IsRefusedFile}
use Rattle.gt_front.specs.Halts.{Halts, HaltsAfter}
use Rattle.gt_front.specs.Order.{FailsIn, HasRead, Extent, upto}
use Rattle.gt_front.specs.Reading.{IsStopAt, IsStopIn, IsStopOf, AreHeadersRead, HasStopped}
use Rattle.gt_front.specs.Stages.{AreWithin, HaltsAt, HaltsBy}
use Rattle.gt_front.specs.declared.preparing.Halt.{Halt}
use Rattle.gt_front.specs.declared.preparing.Halt.TheVariants as halt
use Rattle.gt_front.specs.declared.reading.ReadStop.{ReadStop}
use Rattle.gt_front.specs.declared.reading.ReadStop.TheVariants.{Memory, Refused}
use Rattle.gt_front.specs.declared.refusal.FileWhy.{FileWhy}
use Rattle.gt_front.specs.declared.refusal.FileWhy.TheVariants.{Fault}
use Rattle.gt_front.specs.declared.refusal.Refusal.TheVariants.{File as InFile}
use Rattle.gt_front.proofs.ReadingLemmas.{AreTextsOf-push, are_there}

-- no texts, where a refusal needs none
abbrev pub no_texts : Texts
no_texts = record { headers = []; script = [] }

-- a file that is refused is so also where more files follow
IsRefusedFile-append : (told : Option Held) (files more : List File) (word : ℕ) (why : FileWhy) → IsRefusedFile told files word why → IsRefusedFile told (files ++ more) word why
IsRefusedFile-append told files more word why r =
    record {
      before = r.before;
      file = r.file;
      after = r.after ++ more;
      split = ap (λ fs. fs ++ more) r.split ∙ append_assoc r.before (r.file ∷ r.after) more;
      are_there = r.are_there;
      word_is = r.word_is;
      refused = r.refused;
    }

-- what stopped the reading of the headers stopped that of all files
pub IsStopOf-headers : (told : Option Held) (script : List ℕ) (headers : List (List ℕ)) (stop : ReadStop) → IsStopIn told headers stop → IsStopOf told script headers stop
IsStopOf-headers told script headers Memory stops = tt
IsStopOf-headers told script headers (Refused word why) stops = IsRefusedFile-append told (headers_from 1 headers) (script_file script ∷ []) word why stops.1

-- and so did what stopped the reading of the script, after the headers
pub IsStopOf-script : (told : Option Held) (script : List ℕ) (headers texts : List (List ℕ)) (stop : ReadStop) → AreHeadersRead told headers texts → IsStopAt told (script_file script) stop
    → IsStopOf told script headers stop
IsStopOf-script told script headers texts Memory all stops = tt
IsStopOf-script told script headers texts (Refused word why) all stops =
    record {
      before = headers_from 1 headers;
      file = script_file script;
      after = [];
      split = refl;
      are_there = are_there told (headers_from 1 headers) texts all;
      word_is = sym stops.0;
      refused = stops.1;
    }

-- all files were read
pub Reads-all : (words : List (List ℕ)) (told : Option Held) (call : Call) (name : List ℕ) (headers : List (List ℕ)) (script : List ℕ) → call_of words ≡ Some call
    → call.script ≡ FileWord name → AreHeadersRead told call.headers headers → IsTextOf told (script_file name) script
    → Reads words told call (record { headers = headers; script = script })
Reads-all words told call name headers script called is all one =
    let texts : Texts = record { headers = headers; script = script } in
    let T : ScriptWord → Type 0 = λ s. AreTextsFor told s call.headers texts in
    record {
      called = called;
      texts_are = subst T (sym is) (AreTextsOf-push told (headers_from 1 call.headers) headers (script_file name) script all one);
    }

-- there is a text for each header
each_header : (told : Option Held) (word : ℕ) (names texts : List (List ℕ)) → AreTextsOf told (headers_from word names) texts → length texts ≡ length names
each_header told word [] [] all = refl
each_header told word [] (t ∷ texts) all = absurd all
each_header told word (n ∷ names) [] all = absurd all
each_header told word (n ∷ names) (t ∷ texts) all = let rest = each_header told (word + 1) names texts all.1 in omega (arith, rest)

-- each is within its limit
each_short : (told : Option Held) (word : ℕ) (names texts : List (List ℕ)) → AreTextsOf told (headers_from word names) texts → All (λ text. length text ≤ MAX_HEADER_BYTES) texts
each_short told word [] [] all = All-nil (λ text. length text ≤ MAX_HEADER_BYTES)
each_short told word [] (t ∷ texts) all = absurd all
each_short told word (n ∷ names) [] all = absurd all
each_short told word (n ∷ names) (t ∷ texts) all =
    All-cons (λ text. length text ≤ MAX_HEADER_BYTES) t texts all.0.0 (each_short told (word + 1) names texts all.1)

pub AreWithin-read : (told : Option Held) (call : Call) (name : List ℕ) (texts : List (List ℕ)) → HasHeaders (FileWord name) call.headers → AreHeadersRead told call.headers texts → AreWithin call texts
AreWithin-read told call name texts has all =
    let each = each_header told 1 call.headers texts all in
    record { each = λ other is. omega (arith, each); few = omega (arith, each, has.1); short = each_short told 1 call.headers texts all }

-- ---- why a call stops, and what was read up to then

module _ {F : Type 0} (reads : F → List ℕ → ℕ → Result (Option (List ℕ)) ReadFail → F → Type 0) (words : List (List ℕ)) (told : Option Held) (store last : F) where
  -- a halt by texts is one after what was read for it
  pub HaltsAfter-by : (texts : Texts) (extent : Extent) (result : Halt) → HaltsBy words told texts extent result → HasRead reads words store extent last
      → HaltsAfter reads words told store result last
  HaltsAfter-by texts extent halt.Memory by has = tt
  HaltsAfter-by texts extent (halt.Refused refusal line) by has =
      let R : Extent → Type 0 = λ r. HasRead reads words store r last in (texts, by.0, by.1, subst R by.2 has)

  -- a halt at a file is one after the files before it
  pub HaltsAfter-at : (texts : Texts) (call : Call) (name : List ℕ) → Calls words call name → (stop : ReadStop) (result : Halt) → HaltsAt words told texts stop result
      → HasStopped reads store (files_in_order name call.headers) stop last → HaltsAfter reads words told store result last
  HaltsAfter-at texts call name calls Memory result at has =
      let H : Halt → Type 0 = λ h. HaltsAfter reads words told store h last in subst H (sym at) tt
  HaltsAfter-at texts call name calls (Refused word why) result at has =
      HaltsAfter-by texts (upto word why) result at (record { call = call; name = name; calls = calls; stops = has })

  -- a halt for a failed read is one after the reading of its file failed
  pub HaltsAfter-failed : (word : ℕ) (line : List ℕ) (result : Halt) → result ≡ halt.Refused (InFile word Fault) line → HaltsAfter reads words told store result last
      → FailsIn reads words store word last
  HaltsAfter-failed word line result is after =
      let H : Halt → Type 0 = λ h. HaltsAfter reads words told store h last in
      let here : HaltsAfter reads words told store (halt.Refused (InFile word Fault) line) last = subst H is after in here.3

  -- such a halt is one
  pub Halts-after : (result : Halt) → HaltsAfter reads words told store result last → Halts words told result
  Halts-after halt.Memory after = tt
  Halts-after (halt.Refused refusal line) after = (after.0, after.1, after.2)
