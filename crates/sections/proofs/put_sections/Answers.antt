-- `put_sections` meets its contract. Assumes nothing.
use Rattle.sections.proofs.Showing.{sections_put}
use Rattle.sections.proofs.put_sections.Goals as goal

pub returns : goal.returns
returns c =
    sections_put c.args.w.now c.args.q c.args.before c.requires.1 c.requires.2 _ _ _ _ _ _ _ c.requires.0 c.clear.ensures c.put_section-a.ensures.0 c.put_section-a.ensures.1 c.put_section-b.ensures.0 c.put_section-b.ensures.1 c.put_section.ensures.1
