-- What is said where the nodes of an image are not told.
use Rattle.std.specs.Prelude.{ℕ, List, codes}
use Rattle.dump.specs.declared.nodes.Trouble.{Trouble}
use Rattle.dump.specs.declared.nodes.Trouble.TheVariants.{FewNodes, NoMemory}

abbrev pub trouble_text : Trouble → List ℕ
trouble_text FewNodes = codes "the image has fewer nodes than the node count says"
trouble_text NoMemory = codes "there is no memory for the text"
