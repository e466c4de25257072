use Rattle.std.proofs.Common.{◌≡◌, ◌/◌, ◌++◌, Some}
use Rattle.std.specs.Prelude.{slice_get}
use Rattle.gt_types.specs.declared.program.Root.{Root}
use Rattle.gt_layout.proofs.Laying.{read_at}
use Rattle.gt_layout.specs.declared.planes.FieldSpot.{FieldSpot}
use Rattle.gt_edges.specs.Deletable.{words_from}
use Rattle.gt_tables.specs.RootWords.{words_of}
use Rattle.gt_tables.proofs.Keeping.{if-ok}
use Rattle.gt_tables.proofs.DeletableWords.{root-type, few-words, words-added}
use Rattle.gt_tables.proofs.deletable.add_deletable.Goals as goal

-- the addresses are numbers of 32 bits
pub add_words-requires : goal.add_words-requires
add_words-requires c =
    let program = c.args.program.now in
    let layouts = c.args.layouts.now in
    let r = c.index-as_slice-place.result in
    let there : slice_get program.roots c.args.place ≡ Some r = read_at c.as_slice.result.now program.roots c.args.place r c.as_slice.ensures.items c.requires.there c.index-as_slice-place.is in
    let type = root-type program layouts c.requires.settled c.requires.laid c.requires.within c.args.place r there in
    record {
      few =
          few-words program layouts c.requires.settled c.requires.laid c.requires.within c.args.place r there c.args.start c.root_address-address.result c.size_of.result c.as_slice-2.result.now c.as_slice-2.ensures.items
          c.requires.start c.root_address-address.ensures.address (c.size_of.ensures.size program c.requires.settled c.requires.laid c.requires.within type);
    }

-- and are those of the root
pub returns : goal.returns
returns c =
    let program = c.args.program.now in
    let layouts = c.args.layouts.now in
    let r = c.index-as_slice-place.result in
    let there : slice_get program.roots c.args.place ≡ Some r = read_at c.as_slice.result.now program.roots c.args.place r c.as_slice.ensures.items c.requires.there c.index-as_slice-place.is in
    let type = root-type program layouts c.requires.settled c.requires.laid c.requires.within c.args.place r there in
    record {
      added =
          if-ok (λ _. c.add_words.new.words.items ≡ c.args.words.now.items ++ words_from c.root_address-address.result (c.size_of.result / 8))
          (λ _. (q : Root) (s : FieldSpot) → slice_get program.roots c.args.place ≡ Some q → slice_get layouts.statics.fields c.args.place ≡ Some s
          → c.add_words.new.words.items ≡ c.args.words.now.items ++ words_of layouts.structures c.args.start q s)
          c.add_words.result
          (λ _ added. words-added program layouts c.requires.settled c.requires.laid c.requires.within c.args.place r there c.args.start c.root_address-address.result c.size_of.result c.as_slice-2.result.now c.as_slice-2.ensures.items
          c.requires.start c.root_address-address.ensures.address (c.size_of.ensures.size program c.requires.settled c.requires.laid c.requires.within type) c.if-not-root.false c.args.words.now.items c.add_words.new.words.items added)
          c.add_words.ensures.added;
    }
