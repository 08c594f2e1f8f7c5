mod ReferenceSteps
mod NoReports
