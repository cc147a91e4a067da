-- To the piece's end, or to a line's.
use Rattle.runs.proofs.Turning.{high, to_end, to_line}
use Rattle.runs.proofs.turn.Goals as goal

pub slice_bounds-part-end : goal.slice_bounds-part-end
slice_bounds-part-end c = high _ c.args.image.now c.args.mem.now _ _ _ c.requires _ c.line_end-at.ensures

pub returns-then-at-piece : goal.returns-then-at-piece
returns-then-at-piece c = search to_end

pub returns : goal.returns
returns c =
    to_line _ _ _ _ _ _ c.requires _ c.line_end-at.ensures c.if-at-piece.false _ _ _ _ _ _ _ c.gather-n.ensures c.text_of-text.ensures c.end_line-ended.ensures
