use Rattle.std.proofs.Common.{◌≡◌, length}
use Rattle.dxf_groups.specs.Pairs.{pairs_of}
use Rattle.dxf_entities.specs.Reading.{text_read}
use Rattle.dxf_entities.specs.Resuming.{resumed}
use Rattle.dxf_entities.proofs.reading.layer_lines.Given as goal

-- what is read of the text is what is read of the pairs that are left, which end as those of the text
-- do
abbrev pub invariant-loop-reader : goal.invariant-loop-reader
invariant-loop-reader l = record {
  read : text_read l.fn.form l.fn.groups.text ≡ resumed l.groups.left.pairs l.groups.left.ending l.reader;
  same_text : l.groups.text ≡ l.fn.groups.text;
  same_ending : (pairs_of l.fn.groups.text).ending ≡ l.groups.left.ending;
}

abbrev pub decreases-loop-reader : goal.decreases-loop-reader
decreases-loop-reader l = length l.groups.left.pairs
