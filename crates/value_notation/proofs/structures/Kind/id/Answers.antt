use Rattle.value_notation.proofs.Alone.{item_stands, base_stands, wide_stands, form_stands, cell_stands, vec_stands, hold_stands, two_stands, vecb_stands, any_stands, big_stands, bigv_stands, kindv_stands, ever_stands, label_stands, twin_stands, lone_stands}
use Rattle.value_notation.proofs.structures.Kind.id.Goals as goal

pub returns-in-Item : goal.returns-in-Item
returns-in-Item c = item_stands

pub returns-in-Base : goal.returns-in-Base
returns-in-Base c = base_stands

pub returns-in-Wide : goal.returns-in-Wide
returns-in-Wide c = wide_stands

pub returns-in-Form : goal.returns-in-Form
returns-in-Form c = form_stands

pub returns-in-Cell : goal.returns-in-Cell
returns-in-Cell c = cell_stands

pub returns-in-Vec : goal.returns-in-Vec
returns-in-Vec c = vec_stands

pub returns-in-Hold : goal.returns-in-Hold
returns-in-Hold c = hold_stands

pub returns-in-Two : goal.returns-in-Two
returns-in-Two c = two_stands

pub returns-in-Vecb : goal.returns-in-Vecb
returns-in-Vecb c = vecb_stands

pub returns-in-Any : goal.returns-in-Any
returns-in-Any c = any_stands

pub returns-in-Big : goal.returns-in-Big
returns-in-Big c = big_stands

pub returns-in-Bigv : goal.returns-in-Bigv
returns-in-Bigv c = bigv_stands

pub returns-in-Kindv : goal.returns-in-Kindv
returns-in-Kindv c = kindv_stands

pub returns-in-Ever : goal.returns-in-Ever
returns-in-Ever c = ever_stands

pub returns-in-Label : goal.returns-in-Label
returns-in-Label c = label_stands

pub returns-in-Twin : goal.returns-in-Twin
returns-in-Twin c = twin_stands

pub returns-in-Lone : goal.returns-in-Lone
returns-in-Lone c = lone_stands
