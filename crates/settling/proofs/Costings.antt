-- The three costings keep the laws.
use Rattle.std.proofs.Common.{rules}
use Rattle.settling.specs.Settling.{Lawful}
use Rattle.settling.specs.Costings.{total, worst, worst_then_total}

pub total_lawful : Lawful total
total_lawful = record {
  associative = search rules;
  commutative = search rules;
  neutral = search rules;
  reflexive = search rules;
  transitive = search rules;
  total = search rules;
  antisymmetric = search rules;
  grows = search rules;
}

pub worst_lawful : Lawful worst
worst_lawful = record {
  associative = search rules;
  commutative = search rules;
  neutral = search rules;
  reflexive = search rules;
  transitive = search rules;
  total = search rules;
  antisymmetric = search rules;
  grows = search rules;
}

pub worst_then_total_lawful : Lawful worst_then_total
worst_then_total_lawful = record {
  associative = search rules;
  commutative = search rules;
  neutral = search rules;
  reflexive = search rules;
  transitive = search rules;
  total = search rules;
  antisymmetric = search rules;
  grows = search rules;
}
