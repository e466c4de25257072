-- The command line as a simple command of clap.
use Rattle.std.specs.Prelude.{true, Some, codes}
use Rattle.clap.specs.Walk.{Rule, Text}
use Rattle.clap.specs.Simple.{App, new_app, new_rule, with_rule, on_top}
use Rattle.clap.specs.declared.builder.action.ArgAction.TheVariants.{Append}

-- an option of one value, by its long name alone
abbrev pub option_rule : Text → Rule
option_rule name = record (new_rule name) { long = Some name }

-- the script is a word that must be there
abbrev pub script_rule : Rule
script_rule = record (new_rule (codes "script")) { required = true }

-- the words after it are headers, any number of them
abbrev pub header_rule : Rule
header_rule = record (new_rule (codes "header")) { action = Some Append }

-- three options, the script and the headers; no word is the program's name
unfoldable pub our_app : App
our_app =
    with_rule (with_rule (with_rule (with_rule (with_rule
    (on_top (λ top. record top { no_binary_name = true }) (new_app (codes "gtyheap")))
    (option_rule (codes "space")))
    (option_rule (codes "min-expand")))
    (option_rule (codes "min-heapsize")))
    script_rule)
    header_rule
