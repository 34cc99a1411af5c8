-- `replay::write_line::put_written` meets its contract: its four texts, one after the other. Assumes nothing.
use Rattle.std.proofs.Common.{rules, arith}
use mathlib.Core.Path.{sym}
use lib.Seq.{length-take-le}
use Rattle.line.specs.LineLaws.{put_then}
use Rattle.replay.specs.WriteLine.{written_text}
use Rattle.replay.proofs.write_line.put_written.Goals as goal

pub slice_bounds-put_hex-end : goal.slice_bounds-put_hex-end
slice_bounds-put_hex-end c = sym (length-take-le _ _ c.requires.length_in_bounds)

pub put_hex-requires : goal.put_hex-requires
put_hex-requires c = omega (arith, c.put.ensures.put.end, c.put-2.ensures.put.end, length-take-le c.args.size.length c.args.file.now c.requires.length_in_bounds)

pub returns : goal.returns
unfolding written_text
returns c =
    let a = c.put.ensures.put.end in
    let b = c.put-2.ensures.put.end in
    let l = length-take-le c.args.size.length c.args.file.now c.requires.length_in_bounds in record {
      put = put_then c.put.ensures.put (omega arith) (put_then c.number.ensures.put (omega arith) (put_then c.put-2.ensures.put (omega arith) c.put_hex.ensures.put));
      same_room = search rules;
      upper_bound = omega arith;
    }
