-- What words ask for is in its range.
use Rattle.std.proofs.Common.{◌≡◌, ℕ, ◌≤◌, Bool, true, false, ◌&&◌, suc, List, [], ◌∷◌, length, refl, ap, arith, map, cond}
use Rattle.std.specs.Prelude.{Option, Some, None, IfSome, nat_le, codes, encode_utf8_all, ◌==◌}
use Rattle.std.proofs.lemmas.Bool.{and_parts, leb-true}
use Rattle.clap.specs.Walk.{Row, Text, first_of}
use Rattle.clap.specs.Simple.{matches_of}
use Rattle.clap.specs.Faults.{fault_of}
use Rattle.clap.specs.Kinds.{Kinds}
use Rattle.gt_words.specs.declared.call.Settings.{Settings}
use Rattle.gt_words.specs.declared.call.Call.{Call}
use Rattle.gt_types.specs.declared.limits.TheConstants.{MAX_MIN_EXPAND, MAX_MIN_HEAPSIZE, MAX_HEADERS}
use Rattle.gt_space.specs.declared.TheConstants.{MIN_PAGES, MAX_PAGES}
use Rattle.gt_words.specs.declared.TheConstants.{DEFAULT_PAGES, DEFAULT_MIN_EXPAND, DEFAULT_MIN_HEAPSIZE, MAX_GENERATED}
use Rattle.gt_words.specs.Numbers.{is_decimal_of, value_of, digits_in, number_in}
use Rattle.gt_words.specs.Commands.{our_app}
use Rattle.gt_words.specs.Calls.{◌>>=◌, number_or_of, settings_of, name_of, names_of, headers_of, generated_of, generated_call, file_call, script_call, found_call, unless_refused, call_of}
use Rattle.gt_words.specs.Ranges.{AreInRange, IsInRange}

-- a step and then the next, which has what is claimed after each value of the first
both_steps : {A B : Type 0} (o : Option A) (f : A → Option B) (P : A → Type 0) (Q : B → Type 0) → IfSome o P → ((x : A) → P x → IfSome (f x) Q) → IfSome (o >>= f) Q
both_steps None f P Q h next = tt
both_steps (Some x) f P Q h next = next x h

-- nothing is claimed
anything : {A : Type 0} (o : Option A) → IfSome o (λ x. Unit {0})
anything None = tt
anything (Some x) = tt

-- a test in front of a value
tested : {A : Type 0} (b : Bool) (o : Option A) (P : A → Type 0) → (b ≡ true → IfSome o P) → IfSome (cond b o None) P
tested true o P h = h refl
tested false o P h = tt

-- a test that refuses
passed : {A : Type 0} (b : Bool) (o : Option A) (P : A → Type 0) → IfSome o P → IfSome (cond b None o) P
passed true o P h = tt
passed false o P h = h

abbrev Within : ℕ → ℕ → ℕ → Type 0
Within least most n = (least ≤ n) × (n ≤ most)

digits_within : (least most : ℕ) (text : List ℕ) → IfSome (digits_in least most text) (Within least most)
unfolding digits_in
digits_within least most text = tested _ _ (Within least most) (λ e.
    let upper = and_parts (is_decimal_of text && nat_le least (value_of text)) (nat_le (value_of text) most) e in
    let lower = and_parts (is_decimal_of text) (nat_le least (value_of text)) upper.0 in
    (leb-true _ _ lower.1, leb-true _ _ upper.1))

number_within : (least most : ℕ) (text : List ℕ) → IfSome (number_in least most text) (Within least most)
unfolding number_in
number_within least most text = passed _ _ (Within least most) (digits_within least most text)

number_or_within : (default least most : ℕ) (text : Option Text) → Within least most default → IfSome (number_or_of default least most text) (Within least most)
unfolding number_or_of
number_or_within default least most None h = h
number_or_within default least most (Some text) h = number_within least most text

settings_within : (rows : List Row) → IfSome (settings_of rows) AreInRange
unfolding settings_of
settings_within rows =
    both_steps _ _ (Within 16 16384) AreInRange (number_or_within DEFAULT_PAGES MIN_PAGES MAX_PAGES _ (omega arith, omega arith)) (λ pages p.
    both_steps _ _ (Within 0 1000) AreInRange (number_or_within DEFAULT_MIN_EXPAND 0 MAX_MIN_EXPAND _ (omega arith, omega arith)) (λ min_expand e.
    both_steps _ _ (Within 0 1048576) AreInRange (number_or_within DEFAULT_MIN_HEAPSIZE 0 MAX_MIN_HEAPSIZE _ (omega arith, omega arith)) (λ min_heapsize h.
    record { enough_pages = p.0; not_too_many_pages = p.1; min_expand = e.1; min_heapsize = h.1 })))

names_as_many : (texts : List Text) → IfSome (names_of texts) (λ names. length names ≡ length texts)
unfolding names_of
names_as_many [] = refl
names_as_many (text ∷ texts) =
    both_steps (name_of text) _ (λ name. Unit {0}) _ (anything (name_of text)) (λ name known.
    both_steps (names_of texts) _ (λ names. length names ≡ length texts) _ (names_as_many texts) (λ names e. ap suc e))

headers_within : (texts : List Text) → IfSome (headers_of texts) (λ names. Within 1 64 (length names))
unfolding headers_of
headers_within texts = tested _ _ _ (λ e.
    let parts = and_parts (nat_le 1 (length texts)) (nat_le (length texts) MAX_HEADERS) e in
    weaker (names_of texts) (leb-true _ _ parts.0) (leb-true _ _ parts.1) (names_as_many texts))
  where
    weaker : (o : Option (List (List ℕ))) → 1 ≤ length texts → length texts ≤ 64 → IfSome o (λ names. length names ≡ length texts) → IfSome o (λ names. Within 1 64 (length names))
    weaker None low high h = tt
    weaker (Some names) low high h = (omega (arith, h), omega (arith, h))

generated_within : (digits : Text) → IfSome (generated_of digits) (Within 0 100000)
unfolding generated_of
generated_within digits = tested _ _ (Within 0 100000) (λ e. digits_within 0 MAX_GENERATED digits)

generated_call_in : (settings : Settings) (word digits : Text) (headers : List Text) → AreInRange settings → IfSome (generated_call settings word digits headers) IsInRange
unfolding generated_call
generated_call_in settings word digits [] are =
    both_steps (generated_of digits) _ (Within 0 100000) IsInRange (generated_within digits) (λ n h. record { settings = are; headers = (h.1, refl) })
generated_call_in settings word digits (header ∷ headers) are = tt

file_call_in : (settings : Settings) (text : Text) (headers : List Text) → AreInRange settings → IfSome (file_call settings text headers) IsInRange
unfolding file_call
file_call_in settings text headers are =
    both_steps (name_of text) _ (λ name. Unit {0}) IsInRange (anything (name_of text)) (λ name known.
    both_steps (headers_of headers) _ (λ names. Within 1 64 (length names)) IsInRange (headers_within headers) (λ names h. record { settings = are; headers = h }))

-- a test between two values
either : {A : Type 0} (b : Bool) (o p : Option A) (P : A → Type 0) → IfSome o P → IfSome p P → IfSome (cond b o p) P
either true o p P h g = h
either false o p P h g = g

script_call_in : (settings : Settings) (text : Text) (headers : List Text) → AreInRange settings → IfSome (script_call settings text headers) IsInRange
unfolding script_call
script_call_in settings [] headers are = tt
script_call_in settings (c ∷ text) headers are =
    either (c == 58) _ _ IsInRange (generated_call_in settings (c ∷ text) text headers are) (file_call_in settings (c ∷ text) headers are)

found_call_in : (rows : List Row) → IfSome (found_call rows) IsInRange
unfolding found_call
found_call_in rows =
    both_steps (settings_of rows) _ AreInRange IsInRange (settings_within rows) (λ settings are.
    both_steps (first_of (codes "script") rows) _ (λ script. Unit {0}) IsInRange (anything (first_of (codes "script") rows)) (λ script known.
    script_call_in settings script _ are))

unless_refused_in : (kinds : Kinds) (call : Option Call) → IfSome call IsInRange → IfSome (unless_refused kinds call) IsInRange
unless_refused_in [] call h = h
unless_refused_in (kind ∷ kinds) call h = tt

pub call_in : (words : List (List ℕ)) → IfSome (call_of words) IsInRange
unfolding call_of
call_in words = unless_refused_in (fault_of our_app (map encode_utf8_all words)) _ (found_call_in (matches_of our_app (map encode_utf8_all words)))
