-- The orders of the leaves are lawful.
use Rattle.std.proofs.Common.{refl}
use Rattle.terms.specs.Orders.{text_order, texts_order, name_order, name_parts, literal_side, literal_order, type_parts, type_order, elem_side, elem_order, leaf_side, leaf_order}
use Rattle.terms.proofs.Sides.{literal_of, literal_back, elem_of, elem_back, leaf_of, leaf_back}
use Rattle.terms.proofs.Lawful.{Lawful, numbers, integers, bools, one, lists, options, eithers, pairs, through}

pub text_laws : Lawful text_order
text_laws = lists numbers

pub texts_laws : Lawful texts_order
texts_laws = lists text_laws

pub name_laws : Lawful name_order
name_laws = through name_parts (λ p. record { base = p.0; namespaces = p.1 }) (λ n. refl) (pairs text_laws texts_laws)

pub literal_laws : Lawful literal_order
literal_laws = through literal_side literal_of literal_back (eithers bools (eithers integers (eithers text_laws (pairs name_laws text_laws))))

pub type_laws : Lawful type_order
type_laws = through type_parts (λ p. record { code = p.0; name = p.1 }) (λ t. refl) (pairs numbers (options name_laws))

pub elem_laws : Lawful elem_order
elem_laws = through elem_side elem_of elem_back (eithers numbers one)

pub leaf_laws : Lawful leaf_order
leaf_laws = through leaf_side leaf_of leaf_back (eithers one (eithers literal_laws (eithers numbers (eithers (pairs text_laws (options type_laws)) (eithers name_laws (eithers text_laws (eithers texts_laws (lists elem_laws))))))))
