use Rattle.std.proofs.Common.{[], ◌∷◌, refl}
use Rattle.gt_tree.specs.Blocks.{Nodes, Pointers, Chars, Raw}
use Rattle.gt_value.specs.declared.names.BlockKind.TheVariants as held
use Rattle.sample_program.specs.Sample.{node}
use Rattle.value_notation.specs.Blocks.{block}
use Rattle.value_notation.proofs.Tellings.{told}
use Rattle.value_notation.proofs.blocks.TableBlocksBlockNames.block.Goals as goal

pub returns-in-256 : goal.returns-in-256
returns-in-256 c = record { told = told c.args.addr 256 c.block.result (block (Nodes (node 0)) 1 []) (held.Nodes (node 0)) 1 c.in-256.is refl c.block.ensures refl refl (λ e. absurd (cc)) }

pub returns-in-512 : goal.returns-in-512
returns-in-512 c = record { told = told c.args.addr 512 c.block-in-512.result (block (Nodes (node 0)) 3 []) (held.Nodes (node 0)) 3 c.in-512.is refl c.block-in-512.ensures refl refl (λ e. absurd (cc)) }

pub returns-in-768 : goal.returns-in-768
returns-in-768 c = record { told = told c.args.addr 768 c.block-in-768.result (block Chars 3 (97 ∷ 98 ∷ 0 ∷ [])) held.Chars 3 c.in-768.is refl c.block-in-768.ensures refl refl (λ e. (refl, (97 ∷ 98 ∷ [], refl))) }

pub returns-in-1024 : goal.returns-in-1024
returns-in-1024 c = record { told = told c.args.addr 1024 c.block-in-1024.result (block Chars 4 (97 ∷ 0 ∷ 98 ∷ 0 ∷ [])) held.Chars 4 c.in-1024.is refl c.block-in-1024.ensures refl refl (λ e. (refl, (97 ∷ 0 ∷ 98 ∷ [], refl))) }

pub returns-in-1280 : goal.returns-in-1280
returns-in-1280 c = record { told = told c.args.addr 1280 c.block-in-1280.result (block Raw 16 []) held.Raw 16 c.in-1280.is refl c.block-in-1280.ensures refl refl (λ e. absurd (cc)) }

pub returns-in-1536 : goal.returns-in-1536
returns-in-1536 c = record { told = told c.args.addr 1536 c.block-in-1536.result (block (Pointers (node 0)) 2 []) (held.Pointers (node 0)) 2 c.in-1536.is refl c.block-in-1536.ensures refl refl (λ e. absurd (cc)) }

pub returns-in-1792 : goal.returns-in-1792
returns-in-1792 c = record { told = told c.args.addr 1792 c.block-in-1792.result (block (Nodes (node 1)) 1 []) (held.Nodes (node 1)) 1 c.in-1792.is refl c.block-in-1792.ensures refl refl (λ e. absurd (cc)) }
