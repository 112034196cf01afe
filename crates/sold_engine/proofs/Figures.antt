-- The bounds of small plans in numbers, and that they follow from each other. Assumes nothing.
use Rattle.std.proofs.Common.{arith}
use Rattle.sold_engine.specs.SmallPlans.{small_coefficient, small_side}
use Rattle.sold_engine.proofs.Bounded.{Bound, Grows}
use Rattle.sold_engine.proofs.Reaching.{Reach}
use Rattle.sold_engine.proofs.Lifting.{Completes}
use Rattle.sold_engine.proofs.Deciding.{Course, Runs}
use Rattle.sold_engine.proofs.Comparisons.{grows_first, grows_second, raises_first, raises_second, completes_first, completes_second}

-- ---- the rows: as listed, without fader 0, without fader 1, without both

abbrev pub listed : Bound
listed = record { first = small_coefficient; second = small_coefficient; side = small_side; weight = 1 }

abbrev pub without_first : Bound
without_first = record { first = 0; second = 200; side = 6000; weight = 20 }

abbrev pub without_second : Bound
without_second = record { first = 200; second = 0; side = 6000; weight = 20 }

abbrev pub without_both : Bound
without_both = record { first = 0; second = 0; side = 2400000; weight = 8000 }

pub first_leaves : Grows 0 listed without_first
first_leaves = grows_first listed without_first (omega arith)

pub second_leaves : Grows 1 listed without_second
second_leaves = grows_second listed without_second (omega arith)

pub second_follows : Grows 1 without_first without_both
second_follows = grows_second without_first without_both (omega arith)

pub first_follows : Grows 0 without_second without_both
first_follows = grows_first without_second without_both (omega arith)

-- ---- the courses of elimination on them: a carried row has weight 1 at the start

abbrev at_rest : Reach
at_rest = record { first = 0; second = 0; denominator = 1 }

abbrev only_first : Reach
only_first = record { first = 2400000; second = 0; denominator = 80000 }

abbrev only_second : Reach
only_second = record { first = 0; second = 2400000; denominator = 80000 }

abbrev pub course_listed : Course
course_listed = record {
  start = listed;
  middle = without_first;
  end = without_both;
  done = record { first = 960000000; second = 480000000; denominator = 16000000 };
  half = only_second;
  rest = at_rest;
  weight = 8000;
}

pub runs_listed : Runs course_listed
runs_listed = record {
  first = first_leaves;
  second = second_follows;
  raised = raises_second 6000 2400000 80000 without_first at_rest only_second (omega arith);
  finished = raises_first 48000000 960000000 200 listed only_second course_listed.done (omega arith);
  unit = omega arith;
  weights = omega arith;
  denominators = omega arith;
}

abbrev one_second : Bound
one_second = record { first = 0; second = 200; side = 6000; weight = 1 }

abbrev one_first : Bound
one_first = record { first = 200; second = 0; side = 6000; weight = 1 }

abbrev paired_once : Bound
paired_once = record { first = 0; second = 0; side = 2400000; weight = 400 }

abbrev pub course_without_first : Course
course_without_first = record { start = one_second; middle = one_second; end = paired_once; done = only_second; half = only_second; rest = at_rest; weight = 400 }

pub runs_without_first : Runs course_without_first
runs_without_first = record {
  first = grows_first one_second one_second (omega arith);
  second = grows_second one_second paired_once (omega arith);
  raised = raises_second 6000 2400000 80000 one_second at_rest only_second (omega arith);
  finished = raises_first 960000000 0 1 one_second only_second only_second (omega arith);
  unit = omega arith;
  weights = omega arith;
  denominators = omega arith;
}

abbrev pub course_without_second : Course
course_without_second = record { start = one_first; middle = paired_once; end = paired_once; done = only_first; half = at_rest; rest = at_rest; weight = 400 }

pub runs_without_second : Runs course_without_second
runs_without_second = record {
  first = grows_first one_first paired_once (omega arith);
  second = grows_second paired_once paired_once (omega arith);
  raised = raises_second 2400000 0 1 paired_once at_rest at_rest (omega arith);
  finished = raises_first 6000 2400000 80000 one_first at_rest only_first (omega arith);
  unit = omega arith;
  weights = omega arith;
  denominators = omega arith;
}

abbrev no_fader : Bound
no_fader = record { first = 0; second = 0; side = 2400000; weight = 1 }

abbrev pub course_without_both : Course
course_without_both = record { start = no_fader; middle = no_fader; end = no_fader; done = at_rest; half = at_rest; rest = at_rest; weight = 1 }

pub runs_without_both : Runs course_without_both
runs_without_both = record {
  first = grows_first no_fader no_fader (omega arith);
  second = grows_second no_fader no_fader (omega arith);
  raised = raises_second 2400000 0 1 no_fader at_rest at_rest (omega arith);
  finished = raises_first 2400000 0 1 no_fader at_rest at_rest (omega arith);
  unit = omega arith;
  weights = omega arith;
  denominators = omega arith;
}

-- ---- pivots completed: the only one, the last of two, and then the first

abbrev pub first_done : Reach
first_done = record { first = 48000000; second = 24000000; denominator = 800000 }

pub completes_only_first : Completes 0 listed only_second first_done
completes_only_first = completes_first listed only_second first_done (omega arith)

abbrev pub second_done : Reach
second_done = record { first = 24000000; second = 48000000; denominator = 800000 }

pub completes_only_second : Completes 1 listed only_first second_done
completes_only_second = completes_second listed only_first second_done (omega arith)

abbrev pub second_known : Reach
second_known = record { first = 0; second = 6000; denominator = 200 }

pub completes_last_second : Completes 1 without_first at_rest second_known
completes_last_second = completes_second without_first at_rest second_known (omega arith)

abbrev pub both_by_first : Reach
both_by_first = record { first = 120000; second = 60000; denominator = 2000 }

pub completes_then_first : Completes 0 listed second_known both_by_first
completes_then_first = completes_first listed second_known both_by_first (omega arith)

abbrev pub first_known : Reach
first_known = record { first = 6000; second = 0; denominator = 200 }

pub completes_last_first : Completes 0 without_second at_rest first_known
completes_last_first = completes_first without_second at_rest first_known (omega arith)

abbrev pub both_by_second : Reach
both_by_second = record { first = 60000; second = 120000; denominator = 2000 }

pub completes_then_second : Completes 1 listed first_known both_by_second
completes_then_second = completes_second listed first_known both_by_second (omega arith)
