-- The enclosed components between the virtual faces are the blocks.
use Rattle.std.proofs.Common.{◌≡◌, sym, subst, subst₂, ◌∙◌}
use Rattle.solid_model.specs.declared.fault.Fault.TheVariants.{TooManyBlocks}
use Rattle.solid_model.specs.Blocks.{AreBlocksOf}
use Rattle.solid_model.specs.WalledBoxes.{IsEarlier}
use Rattle.solid_model.specs.Limits.{most_blocks}
use Rattle.lemmas.specs.Lists.{Each}
use Rattle.solid_model.specs.VirtualFaces.{IsVirtual}
use Rattle.solid_model.specs.GridBox.{grid_sizes}
use Rattle.solid_model.proofs.EnclosedNumbers.{enclosed_numbers-below}
use Rattle.blocks.proofs.BlockComponents.{enclosed_blocks, block_numbers-few}
use Rattle.blocks.proofs.grid_blocks.blocks_of.Goals as goal

pub returns-then-enclosed-gt-MOST_BLOCKS-clause-many :
    goal.returns-then-enclosed-gt-MOST_BLOCKS-clause-many
returns-then-enclosed-gt-MOST_BLOCKS-clause-many c = λ fault e.
    let enclosed = c.in_ok-enclosed.enclosed in
    let same : fault ≡ TooManyBlocks enclosed.count = cc in
    let are = enclosed_blocks c.args.grid.now c.args.faces.now c.requires enclosed.numbers.items enclosed.count c.in_ok-enclosed.ensures in
    (enclosed.count, same, (enclosed.numbers.items, are, c.if-enclosed-gt-MOST_BLOCKS.true))

pub short_numbers-requires : goal.short_numbers-requires
short_numbers-requires c =
    let enclosed = c.in_ok-enclosed.enclosed in
    let are = enclosed_blocks c.args.grid.now c.args.faces.now c.requires enclosed.numbers.items enclosed.count c.in_ok-enclosed.ensures in
    subst (λ numbers. Each (IsEarlier most_blocks) numbers) (sym c.as_slice.ensures.value)
    (block_numbers-few c.args.grid.now enclosed.numbers.items enclosed.count are c.if-enclosed-gt-MOST_BLOCKS.false)

pub new-requires-clause-below : goal.new-requires-clause-below
new-requires-clause-below c =
    let enclosed = c.in_ok-enclosed.enclosed in
    let are = enclosed_blocks c.args.grid.now c.args.faces.now c.requires enclosed.numbers.items enclosed.count c.in_ok-enclosed.ensures in
    subst (λ numbers. Each (IsEarlier enclosed.count) numbers) (sym (c.in_ok-numbers.ensures ∙ c.as_slice.ensures.value))
    (enclosed_numbers-below (grid_sizes c.args.grid.now) (IsVirtual c.args.grid.now) enclosed.numbers.items enclosed.count are)

pub returns-clause-blocks : goal.returns-clause-blocks
returns-clause-blocks c =
    let enclosed = c.in_ok-enclosed.enclosed in
    let are = enclosed_blocks c.args.grid.now c.args.faces.now c.requires enclosed.numbers.items enclosed.count c.in_ok-enclosed.ensures in
    let numbers : c.new.result.numbers ≡ enclosed.numbers.items = c.new.ensures.numbers ∙ c.in_ok-numbers.ensures ∙ c.as_slice.ensures.value in
    record {
      sized = λ a t. c.new.ensures.sizes t a;
      blocks = subst₂ (AreBlocksOf c.args.grid.now) (sym numbers) (sym c.new.ensures.count) are;
    }
