-- What the words of the command line ask for.
use Rattle.std.specs.Prelude.{ℕ, ◌&&◌, ◌==◌, nat_le, if◌then◌else◌, List, [], ◌∷◌, length, map, Option, Some, None, codes, unwrap_or, encode_utf8_all}
use Rattle.std.specs.Str.{chars}
use Rattle.clap.specs.Walk.{Row, Text, first_of, all_of}
use Rattle.clap.specs.Simple.{matches_of}
use Rattle.clap.specs.Faults.{fault_of}
use Rattle.clap.specs.Kinds.{Kinds}
use Rattle.gt_words.specs.declared.call.Settings.{Settings}
use Rattle.gt_words.specs.declared.call.Script.TheVariants.{File, Generated}
use Rattle.gt_words.specs.declared.call.Call.{Call}
use Rattle.gt_types.specs.declared.limits.TheConstants.{MAX_MIN_EXPAND, MAX_MIN_HEAPSIZE, MAX_HEADERS}
use Rattle.gt_space.specs.declared.TheConstants.{MIN_PAGES, MAX_PAGES}
use Rattle.gt_words.specs.declared.TheConstants.{DEFAULT_PAGES, DEFAULT_MIN_EXPAND, DEFAULT_MIN_HEAPSIZE, MAX_GENERATED, MAX_GENERATED_DIGITS}
use Rattle.gt_words.specs.Numbers.{digits_in, number_in}
use Rattle.gt_words.specs.Commands.{our_app}

infixl 10 ◌>>=◌
abbrev pub ◌>>=◌ : {A B : Type 0} → Option A → (A → Option B) → Option B
(Some x) >>= f = f x
None >>= f = None

-- the number of an option in its range, or the default where the option is not given
unfoldable pub number_or_of : ℕ → ℕ → ℕ → Option Text → Option ℕ
number_or_of default least most None = Some default
number_or_of default least most (Some text) = number_in least most text

-- the three settings
unfoldable pub settings_of : List Row → Option Settings
settings_of rows = do
  pages ← number_or_of DEFAULT_PAGES MIN_PAGES MAX_PAGES (first_of (codes "space") rows)
  min_expand ← number_or_of DEFAULT_MIN_EXPAND 0 MAX_MIN_EXPAND (first_of (codes "min-expand") rows)
  min_heapsize ← number_or_of DEFAULT_MIN_HEAPSIZE 0 MAX_MIN_HEAPSIZE (first_of (codes "min-heapsize") rows)
  Some (record { pages = pages; min_expand = min_expand; min_heapsize = min_heapsize })

-- a word names a file where it is not empty
unfoldable pub name_of : Text → Option (List ℕ)
name_of text = if length text == 0 then None else Some (chars text)

-- each of the words names a file
unfoldable pub names_of : List Text → Option (List (List ℕ))
names_of [] = Some []
names_of (text ∷ texts) = do
  name ← name_of text
  names ← names_of texts
  Some (name ∷ names)

-- from one header to 64
unfoldable pub headers_of : List Text → Option (List (List ℕ))
headers_of texts = if nat_le 1 (length texts) && nat_le (length texts) MAX_HEADERS then names_of texts else None

-- the N of `:N`: at most six digits, zeros in front among them
unfoldable pub generated_of : Text → Option ℕ
generated_of digits = if nat_le (length digits) MAX_GENERATED_DIGITS then digits_in 0 MAX_GENERATED digits else None

-- a generated script brings its own header, so that none may be given
unfoldable pub generated_call : Settings → (word digits : Text) → List Text → Option Call
generated_call settings word digits [] = do
  n ← generated_of digits
  Some (record { settings = settings; script = Generated (chars word) n; headers = [] })
generated_call settings word digits (header ∷ headers) = None

-- a script that is a file has headers
unfoldable pub file_call : Settings → Text → List Text → Option Call
file_call settings text headers = do
  name ← name_of text
  names ← headers_of headers
  Some (record { settings = settings; script = File name; headers = names })

-- with `:` (58) in front the script is generated, else it is a file
unfoldable pub script_call : Settings → Text → List Text → Option Call
script_call settings [] headers = None
script_call settings (c ∷ text) headers = if c == 58 then generated_call settings (c ∷ text) text headers else file_call settings (c ∷ text) headers

-- what the matches of the command ask for: the settings, the script and the headers
unfoldable pub found_call : List Row → Option Call
found_call rows = do
  settings ← settings_of rows
  script ← first_of (codes "script") rows
  script_call settings script (unwrap_or (all_of (codes "header") rows) [])

-- words at which a step of the parse fails ask for nothing
abbrev pub unless_refused : Kinds → Option Call → Option Call
unless_refused [] call = call
unless_refused (kind ∷ kinds) call = None

-- clap reads the words in UTF-8: it refuses them, or its matches say what they ask for
unfoldable pub call_of : List (List ℕ) → Option Call
call_of words =
    unless_refused (fault_of our_app (map encode_utf8_all words)) (found_call (matches_of our_app (map encode_utf8_all words)))
