-- `replay::next_line::put_listed` meets its contract: its four texts, one after the other. Assumes nothing.
use Rattle.std.proofs.Common.{rules, arith}
use mathlib.Core.Path.{sym}
use lib.Seq.{length-take-le}
use Rattle.line.specs.LineLaws.{put_then}
use Rattle.replay.specs.NextLine.{listed_text}
use Rattle.replay.proofs.next_line.put_listed.Goals as goal

pub slice_bounds-put_numbers-end : goal.slice_bounds-put_numbers-end
slice_bounds-put_numbers-end c = sym (length-take-le _ _ c.requires.length_in_bounds)

pub put_numbers-requires : goal.put_numbers-requires
put_numbers-requires c =
    let l = length-take-le c.args.found.length c.args.list.now c.requires.length_in_bounds in
    omega (arith, c.put.ensures.put.end)

pub returns : goal.returns
unfolding listed_text
returns c =
    let n0 = c.put.ensures.put in
    let e = n0.end in
    let l = length-take-le c.args.found.length c.args.list.now c.requires.length_in_bounds in record {
      put = put_then n0 (omega arith) (put_then c.number.ensures.put (omega arith) (put_then c.number-2.ensures.put (omega arith) c.put_numbers.ensures.put));
      same_room = search rules;
      upper_bound = omega arith;
    }
