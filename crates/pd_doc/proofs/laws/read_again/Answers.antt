use Rattle.pd_doc.proofs.laws.read_again.Goals as goal

pub returns : goal.returns
returns c names names' p text t h =
    c.written_read.ensures names' p (c.read_proper.ensures.table names names' p text t h) (c.read_proper.ensures.proper names names' p text t h)
