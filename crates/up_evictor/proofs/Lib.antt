mod PassSteps
